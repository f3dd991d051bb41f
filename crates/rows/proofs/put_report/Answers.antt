use native.Mathlib.Omega.{arith}
use mathlib.Core.Path.{refl, sym, ◌∙◌}
use Rattle.rows.proofs.RowLaws.{growing-none, growing-room, growing-more, rows_none, rows_more, report-put}
use Rattle.rows.proofs.put_report.Goals as goal

pub loop-id-init : goal.loop-id-init
loop-id-init c = (growing-none _ _ _ _ _ (rows_none _ _), refl)

pub put_row-requires : goal.put_row-requires
put_row-requires c =
    let k = growing-room _ _ _ _ _ _ _ _ c.loop-id.invariant.0 (omega arith) (omega (arith, c.requires)) in
    (omega arith, omega arith, c.requires.1)

pub loop-id-preserved : goal.loop-id-preserved
loop-id-preserved c = (
  growing-more _ _ _ _ _ _ _ _ _ _ _ c.loop-id.invariant.0 (omega arith) (omega (arith, c.requires)) (rows_more _ _ _)
      c.put_row.ensures.row c.put_row.ensures.room,
  c.put_row.ensures.same ∙ c.loop-id.invariant.1,
)

pub returns : goal.returns
returns c =
    let all = report-put _ _ _ _ _ _ _ c.requires.0 c.loop-id.invariant.0 (omega arith) (c.out-1.given.1.1 (sym c.loop-id.invariant.1)) in
    record { text = all.0; room = all.1 }
