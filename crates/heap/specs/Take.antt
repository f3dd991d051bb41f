-- The call take: the lowest free frame becomes held. Refusals 1 and 10.
use Rattle.std.specs.Prelude.{ℕ, ◌+◌, ◌≡◌, true, not}
use Rattle.registers.specs.Refusals.{refuse_unless, by_refusal}
use Rattle.registers.specs.Replies.{refusal_of}
use Rattle.heap.specs.Pools.{pool_fits, is_full, lowest_free, pool_with, done_pool, refused_pool}
use Rattle.heap.specs.declared.Pool.{Pool}
use Rattle.heap.specs.declared.PoolReply.{PoolReply}

-- number 10: "refused with 10 exactly when every frame is held"
unfoldable pub full_refusal : Pool → ℕ
full_refusal p = refuse_unless (not (is_full p)) 10 0

unfoldable pub take_refusal : Pool → ℕ
take_refusal p = refuse_unless (pool_fits p) 1 (full_refusal p)

-- "Taking gives the lowest free frame": its pfn, and the pool in which it is held
unfoldable pub taken_pfn : Pool → ℕ
taken_pfn p = p.first + lowest_free p

unfoldable pub taken_pool : Pool → Pool
taken_pool p = pool_with true (lowest_free p) p

unfoldable pub take_reply : Pool → PoolReply
take_reply p = by_refusal (take_refusal p) (done_pool (taken_pfn p) (taken_pool p)) (refused_pool (take_refusal p) p)

-- what the call promises
pub record TakeGives (p : Pool) (reply : PoolReply) : Type 0 where
  pub refusal_is : refusal_of reply.outcome ≡ take_refusal p
  pub reply-is : reply ≡ take_reply p
