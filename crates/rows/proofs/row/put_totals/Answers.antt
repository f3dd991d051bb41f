use mir.Syntax.{w64}
use mir.ValLaws.{to_z-of_z}
use native.Mathlib.Omega.{arith}
use mathlib.Core.Path.{refl, ◌∙◌}
use Prim.Native.Nat.{◌<◌}
use Rattle.rows.proofs.RowLaws.{part-length, part-at, growing-none, growing-room, growing-more, growing-all, totals-none, totals-more}
use Rattle.rows.proofs.row.put_totals.Goals as goal

pub loop-total-init : goal.loop-total-init
loop-total-init c = (growing-none _ _ _ _ _ (totals-none _ _), refl)

pub put_total-requires : goal.put_total-requires
put_total-requires c =
    let here : c.loop-total.total-index < 14 = omega (arith, c.requires.1, c.loop-total-test.true) in
    growing-room _ _ _ _ _ _ _ _ c.loop-total.invariant.0 here (omega (arith, c.requires.0))

pub loop-total-preserved : goal.loop-total-preserved
loop-total-preserved c =
    let part = part-length _ _ c.requires.1 in
    let here : c.loop-total.total-index < 14 = omega (arith, part, c.loop-total-test.true) in (
      growing-more _ _ _ _ _ _ _ _ _ _ _ c.loop-total.invariant.0 here (omega (arith, c.requires.0))
          (totals-more _ _ _ _
          (to_z-of_z w64 _ (record { sfits = c.put_total-arg-in-loop-total-1.given }) ∙ part-at _ _ c.requires.1 _ here)) c.put_total.ensures.grows c.put_total.ensures.room,
      c.put_total.ensures.same ∙ c.loop-total.invariant.1,
    )

pub returns : goal.returns
returns c =
    let part = part-length _ _ c.requires.1 in
    let all = growing-all _ _ _ _ _ _ _ _ c.loop-total.invariant.0 (omega (arith, part, c.loop-total-test.false)) in
    record { same = c.loop-total.invariant.1; grows = all.0; room = all.1 }
