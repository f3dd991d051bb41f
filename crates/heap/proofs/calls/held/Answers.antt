use mathlib.Core.Path.{refl, ap}
use native.Mathlib.Omega.{arith}
use Rattle.registers.specs.declared.Outcome.TheVariants.{Done, Refused}
use Rattle.heap.specs.Pools.{held_frames}
use Rattle.heap.specs.Held.{held_refusal}
use Rattle.heap.proofs.PoolLaws.{frames-now}
use Rattle.heap.proofs.CallLaws.{unfit, fit, held-refused, held-done}
use Rattle.heap.proofs.calls.held.Goals as goal

pub returns-then-not-frames_fit : goal.returns-then-not-frames_fit
unfolding held_refusal
returns-then-not-frames_fit c = held-refused _ _ 1 (unfit _ _ c.frames_fit.ensures 0 c.if-not-frames_fit.true-raw) (λ z. omega arith) (ap Refused c.from.ensures)

pub held_frames-requires : goal.held_frames-requires
held_frames-requires c = (frames-now _ _ _ c.frames_fit.ensures c.if-not-frames_fit.false-raw).at_most

pub returns : goal.returns
unfolding held_refusal held_frames
returns c = held-done _ _ (fit _ _ c.frames_fit.ensures 0 0 c.if-not-frames_fit.false-raw refl)
    (ap Done c.held_frames.ensures)
