-- The call give: a held frame becomes free. Refusals 1 and 11.
use Rattle.std.specs.Prelude.{ℕ, ◌-◌, ◌≡◌, false}
use Rattle.registers.specs.Refusals.{refuse_unless, by_refusal}
use Rattle.registers.specs.Replies.{refusal_of}
use Rattle.heap.specs.Pools.{pool_fits, holds, pool_with, done_pool, refused_pool}
use Rattle.heap.specs.declared.Pool.{Pool}
use Rattle.heap.specs.declared.PoolReply.{PoolReply}

unfoldable pub give_refusal : Pool → (pfn : ℕ) → ℕ
give_refusal p pfn = refuse_unless (pool_fits p) 1 (refuse_unless (holds p pfn) 11 0)

unfoldable pub given_pool : Pool → (pfn : ℕ) → Pool
given_pool p pfn = pool_with false (pfn - p.first) p

unfoldable pub give_reply : Pool → (pfn : ℕ) → PoolReply
give_reply p pfn = by_refusal (give_refusal p pfn) (done_pool 0 (given_pool p pfn)) (refused_pool (give_refusal p pfn) p)

-- what the call promises
pub record GiveGives (p : Pool) (pfn : ℕ) (reply : PoolReply) : Type 0 where
  pub refusal_is : refusal_of reply.outcome ≡ give_refusal p pfn
  pub reply-is : reply ≡ give_reply p pfn
