-- The call held: how many frames are held. Refusal 1.
use Rattle.std.specs.Prelude.{ℕ, ◌≡◌}
use Rattle.registers.specs.Refusals.{refuse_unless, by_refusal}
use Rattle.registers.specs.Replies.{refusal_of}
use Rattle.registers.specs.declared.Outcome.{Outcome}
use Rattle.registers.specs.declared.Outcome.TheVariants.{Done, Refused}
use Rattle.heap.specs.Pools.{pool_fits, held_frames}
use Rattle.heap.specs.declared.Pool.{Pool}

unfoldable pub held_refusal : Pool → ℕ
held_refusal p = refuse_unless (pool_fits p) 1 0

unfoldable pub held_outcome : Pool → Outcome
held_outcome p = by_refusal (held_refusal p) (Done (held_frames p)) (Refused (held_refusal p))

-- what the call promises
pub record HeldGives (p : Pool) (outcome : Outcome) : Type 0 where
  pub refusal_is : refusal_of outcome ≡ held_refusal p
  pub outcome-is : outcome ≡ held_outcome p
