-- The call new pool: all frames free. Refusal 1.
use Rattle.std.specs.Prelude.{ℕ, ◌≡◌, replicate}
use Rattle.registers.specs.Refusals.{refuse_unless, by_refusal}
use Rattle.registers.specs.Replies.{refusal_of}
use Rattle.heap.specs.Pools.{frames_fit, done_pool, refused_pool}
use Rattle.heap.specs.declared.Pool.{Pool}
use Rattle.heap.specs.declared.PoolReply.{PoolReply}

unfoldable pub new_refusal : (first size : ℕ) → ℕ
new_refusal first size = refuse_unless (frames_fit first size) 1 0

-- no bit is set, past the size neither
unfoldable pub clear_pool : (first size : ℕ) → Pool
clear_pool first size = record { first = first; size = size; bits = replicate 64 0 }

-- "a refused new one all 0"
unfoldable pub new_reply : (first size : ℕ) → PoolReply
new_reply first size =
    by_refusal (new_refusal first size) (done_pool 0 (clear_pool first size)) (refused_pool (new_refusal first size) (clear_pool 0 0))

-- what the call promises
pub record NewPoolGives (first size : ℕ) (reply : PoolReply) : Type 0 where
  pub refusal_is : refusal_of reply.outcome ≡ new_refusal first size
  pub reply-is : reply ≡ new_reply first size
