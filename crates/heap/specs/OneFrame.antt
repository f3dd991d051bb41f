-- What an accepted take and an accepted give change: one frame, and no other.
use Rattle.std.specs.Prelude.{ℕ, ◌+◌, ◌≤◌, ◌<◌, ◌≡◌, true, false, length}
use Rattle.registers.specs.declared.Outcome.TheVariants.{Done}
use Rattle.heap.specs.Pools.{holds}
use Rattle.heap.specs.Take.{TakeGives}
use Rattle.heap.specs.Give.{GiveGives}
use Rattle.heap.specs.declared.Pool.{Pool}
use Rattle.heap.specs.declared.PoolReply.{PoolReply}

-- "the lowest free frame": it was free, every frame below it was held, and it alone becomes held
pub record TakesLowest (p : Pool) (pfn : ℕ) (after : Pool) : Type 0 where
  pub from_first : p.first ≤ pfn
  pub within-size : pfn < p.first + p.size
  pub was_free : holds p pfn ≡ false
  pub lower-held : (lower : ℕ) → p.first ≤ lower → lower < pfn → holds p lower ≡ true
  pub held-now : holds after pfn ≡ true
  pub others-stay : (other : ℕ) → (other ≡ pfn → ⊥) → holds after other ≡ holds p other

-- a held frame is given back: it alone becomes free
pub record GivesBack (p : Pool) (pfn : ℕ) (after : Pool) : Type 0 where
  pub was-held : holds p pfn ≡ true
  pub free-now : holds after pfn ≡ false
  pub others-stay : (other : ℕ) → (other ≡ pfn → ⊥) → holds after other ≡ holds p other

-- of any pool of 64 words, as every pool in code is
unfoldable pub TakeTakesLowest : Type 0
TakeTakesLowest =
    (p : Pool) (reply : PoolReply) (pfn : ℕ) → length p.bits ≡ 64 → TakeGives p reply → reply.outcome ≡ Done pfn
    → TakesLowest p pfn reply.pool

unfoldable pub GiveGivesBack : Type 0
GiveGivesBack =
    (p : Pool) (reply : PoolReply) (pfn value : ℕ) → length p.bits ≡ 64 → GiveGives p pfn reply → reply.outcome ≡ Done value
    → GivesBack p pfn reply.pool
