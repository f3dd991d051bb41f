use native.Mathlib.Omega.{arith}
use Rattle.line.specs.Text.{ascii}
use Rattle.rows.proofs.RowLaws.{head-room, end-room, row_put}
use Rattle.rows.proofs.row.put_row.Goals as goal

pub put_totals-requires : goal.put_totals-requires
put_totals-requires c = (
  head-room _ _ _ _ _ c.requires.0 c.put_head.ensures.head c.put_head.ensures.room,
  omega (arith, c.requires.1, c.requires.2),
)

pub put-requires : goal.put-requires
put-requires c =
    end-room _ _ _ _ _ c.requires.0 c.put_head.ensures.head c.put_head.ensures.room _ _ _ c.put_totals.ensures.grows
    c.put_totals.ensures.room

pub returns : goal.returns
unfolding ascii
returns c =
    let all = row_put _ _ _ _ _ _ _ _ _ _ _ c.requires.0 c.put_head.ensures.head c.put_head.ensures.room c.put_totals.ensures.grows
    c.put_totals.ensures.room c.put.ensures.grows in
    record { same = cc; row = all.0; room = all.1 }
