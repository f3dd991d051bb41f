use Rattle.std.proofs.Common.{arith, sym, ◌∙◌}
use Rattle.tracing.proofs.TraceLaws.{first_block, next-block, last_block, nearer, goes-on}
use Rattle.tracing.proofs.StreamLaws.{first-moves, next-moves}
use Rattle.tracing.proofs.traces.run_blocks.Goals as goal

pub loop-registers-init : goal.loop-registers-init
loop-registers-init g c = (
  first_block _ _ _ _ _ _ c.run_block-last.ensures.block,
  (c.run_block-last.auto.input ∙ c.requires.0, c.run_block-last.auto.out ∙ c.requires.1),
  first-moves _ _ _ _ _ _ _ _ _ _ c.run_block-last.ensures.block c.run_block-last.ensures.taken c.run_block-last.ensures.put,
)

pub run_block-last-requires-in-loop-registers : goal.run_block-last-requires-in-loop-registers
run_block-last-requires-in-loop-registers g c =
    let on = goes-on c.loop-registers.last (sym c.loop-registers-test.ensures) in
    (c.loop-registers.invariant.1, omega (arith, on.0, on.1))

pub loop-registers-smaller : goal.loop-registers-smaller
loop-registers-smaller g c =
    let on = goes-on c.loop-registers.last (sym c.loop-registers-test.ensures) in
    nearer _ _ _ _ _ _ _ _ (c.run_block-last-in-loop-registers.auto.input ∙ c.loop-registers.invariant.1.0)
    c.run_block-last-in-loop-registers.ensures.block on.0 on.1

pub loop-registers-preserved : goal.loop-registers-preserved
loop-registers-preserved g c =
    let on = goes-on c.loop-registers.last (sym c.loop-registers-test.ensures) in
    let fits = c.loop-registers.invariant.1 in
    let next = c.run_block-last-in-loop-registers.ensures in (
      next-block _ _ _ _ _ _ c.loop-registers.invariant.0 on.0 fits.0 _ _ _ _ _ next.block,
      (c.run_block-last-in-loop-registers.auto.input ∙ fits.0, c.run_block-last-in-loop-registers.auto.out ∙ fits.1),
      next-moves _ _ _ _ _ _ _ _ _ c.loop-registers.invariant.2 on.2 on.0 fits.0 _ _ _ _ _ _ _ next.block next.taken next.put,
    )

pub returns-clause-trace : goal.returns-clause-trace
returns-clause-trace g c = last_block _ _ _ _ _ _ c.loop-registers.invariant.0 (sym c.loop-registers-test.ensures)

pub returns-clause-moves : goal.returns-clause-moves
returns-clause-moves g c = c.loop-registers.invariant.2
