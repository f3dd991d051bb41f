use Prim.Native.Nat.{ℕ, ◌+◌, ◌*◌}
use mathlib.Core.Path.{ap, sym, ◌∙◌}
use native.Mathlib.Omega.{arith}
use lib.Count.{trailing_le}
use Rattle.heap.proofs.BitLaws.{none-begin, none-turn, none_end, free-found}
use Rattle.heap.proofs.bits.lowest_free.Goals as goal

pub loop-k-init : goal.loop-k-init
loop-k-init c = none-begin _ _

pub low_bits-free-requires : goal.low_bits-free-requires
low_bits-free-requires c = tt

pub lowest_set-requires : goal.lowest_set-requires
lowest_set-requires c = tt

pub overflow_add-result : goal.overflow_add-result
overflow_add-result c = omega (arith, c.lowest_set.ensures, trailing_le 64 c.low_bits-free.result)

pub returns-then-free-ne0 : goal.returns-then-free-ne0
returns-then-free-ne0 c = let word = c.word_at in
    let none = c.loop-k.invariant in
    let found = free-found _ _ _ _ _ word.ensures word.type_inv c.low_bits-free.ensures none c.if-free-ne0.true in
    (ap (λ (t : ℕ). 64 * c.loop-k.k + t) c.lowest_set.ensures ∙ found.0, omega (arith, found.1, c.lowest_set.ensures))

pub loop-k-preserved : goal.loop-k-preserved
loop-k-preserved c = let word = c.word_at in
    let none = c.loop-k.invariant in
    none-turn _ _ _ _ _ word.ensures word.type_inv c.low_bits-free.ensures none c.if-free-ne0.false

pub returns : goal.returns
returns c = sym (none_end _ _ _ c.loop-k.invariant (omega arith))
