use native.Mathlib.Omega.{arith}
use Rattle.line.specs.Text.{ascii}
use Rattle.line.proofs.LineLaws.{long-le}
use Rattle.rows.proofs.RowLaws.{behind-room, id-room, head-put}
use Rattle.rows.proofs.row.put_head.Goals as goal

pub put_decimal-requires : goal.put_decimal-requires
put_decimal-requires c = let k = long-le c.args.number (omega arith) in omega arith

pub put-requires : goal.put-requires
put-requires c = behind-room _ _ _ (omega arith) _ _ c.put_decimal.ensures.grows 1 (omega (arith, c.requires))

pub put_decimal-requires-2 : goal.put_decimal-requires-2
unfolding ascii
put_decimal-requires-2 c =
    id-room _ _ _ (omega arith) _ _ c.put_decimal.ensures.grows _ c.requires.0 c.requires.1 _ _ c.put.ensures.grows

pub returns : goal.returns
unfolding ascii
returns c =
    let all = head-put _ _ _ (omega arith) _ _ c.put_decimal.ensures.grows _ c.requires.0 c.requires.1 _ _ c.put.ensures.grows _ _
    c.put_decimal-2.ensures.grows in
    record { same = cc; head = all.0; room = all.1 }
