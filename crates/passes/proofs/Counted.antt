-- The number that a pass answers is that of the frames that went back. Assumes nothing.
use Prim.Native.Nat.{◌+◌}
use mathlib.Core.Path.{◌≡◌, sym, ap, ◌∙◌}
use mathlib.Core.Logic.{⊎_elim}
use native.Mathlib.Nat.{zero-add}
use native.Mathlib.Omega.{arith}
use Rattle.heap.specs.Pools.{held_frames}
use Rattle.registers.proofs.RefusalLaws.{by_number}
use Rattle.collector.specs.Collect.{visited_by, collect_refusal, refused_collect, collect_answer}
use Rattle.collector.specs.declared.Collected.{Collected}
use Rattle.passes.specs.Frames.{GivenCounted}
use Rattle.passes.proofs.Repeated.{pass-account}

pub given_counted : GivenCounted
unfolding GivenCounted collect_answer visited_by
given_counted m p id answer buffer-after words-after whole made =
    ⊎_elim
    (λ accepted.
    let a = pass-account m p id answer buffer-after words-after whole (record { made = made; accepted = accepted.0 }) in
    omega (arith, a.frames, ap (λ (x : Collected). x.given) accepted.1))
    (λ (refused : answer ≡ refused_collect m.registers (collect_refusal m p id) p).
    sym (zero-add (held_frames p)) ∙ sym (ap (λ (x : Collected). x.given + held_frames x.pool) refused))
    (by_number (collect_refusal m p id) _ (refused_collect m.registers (collect_refusal m p id) p) answer made.answer-is)
