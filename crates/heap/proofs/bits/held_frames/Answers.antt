use mathlib.Core.Path.{refl}
use native.Mathlib.Omega.{arith}
use lib.Count.{ones-le}
use Rattle.runs.specs.Counts.{count}
use Rattle.heap.proofs.BitLaws.{held-le, held-turn, held-end}
use Rattle.heap.proofs.bits.held_frames.Goals as goal

pub loop-k-init : goal.loop-k-init
unfolding count
loop-k-init c = refl

pub low_bits-held-requires : goal.low_bits-held-requires
low_bits-held-requires c = tt

pub overflow_add-number : goal.overflow_add-number
overflow_add-number c = let inv = c.loop-k.invariant in
    let held = c.low_bits-held in
    omega (arith, held-le _ _ _ _ inv, ones-le 64 held.result held.type_inv)

pub loop-k-preserved : goal.loop-k-preserved
loop-k-preserved c = let inv = c.loop-k.invariant in
    let word = c.word_at in
    (held-turn _ _ _ _ _ _ word.ensures word.type_inv c.low_bits-held.ensures inv).0

pub returns : goal.returns
returns c = held-end _ _ _ _ c.loop-k.invariant (omega arith)
