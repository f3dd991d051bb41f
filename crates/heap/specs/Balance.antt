-- The balance: from a new pool, frames free plus frames held equals the size, the held number being counted from the history.
use Rattle.std.specs.Prelude.{ℕ, ◌+◌, ◌-◌, ◌≤◌, ◌≡◌, true, List, [], ◌∷◌, ◌++◌, ltb, length}
use Rattle.runs.specs.Bits.{bit}
use Rattle.registers.specs.Refusals.{refuse_unless}
use Rattle.registers.specs.declared.Outcome.TheVariants.{Done}
use Rattle.heap.specs.Pools.{pool_fits, free_frames, held_frames, holds}
use Rattle.heap.specs.NewPool.{new_refusal, NewPoolGives}
use Rattle.heap.specs.Take.{take_refusal}
use Rattle.heap.specs.Give.{give_refusal}
use Rattle.heap.specs.Held.{held_outcome}
use Rattle.heap.specs.Sequences.{Calls, KeptThroughout, last_pool, taken_in, given_in, times}
use Rattle.heap.specs.Histories.{own_calls}
use Rattle.heap.specs.declared.Pool.{Pool}
use Rattle.heap.specs.declared.PoolReply.{PoolReply}

-- "the held number being counted from the history of takes, mappings among them, and gives": takes and mappings accepted, minus gives
-- accepted
unfoldable pub held_by : (taken given : List ℕ) → ℕ
held_by taken given = length taken - length given

pub record Balanced (first size : ℕ) (taken given : List ℕ) (p : Pool) : Type 0 where
  -- the pool has the frames that it was made with, so no call that is handed it is refused with 1 for it
  pub first-stays : p.first ≡ first
  pub size-stays : p.size ≡ size
  pub still-fits : pool_fits p ≡ true
  -- "frames free plus frames held equals the pool size"
  pub balance : free_frames p + held_by taken given ≡ size
  -- the history's number is that of the bits set within the size, and the call held answers it
  pub ones-are-held : held_frames p ≡ held_by taken given
  pub held-answers : held_outcome p ≡ Done (held_by taken given)
  -- it is a difference: no more gives were accepted than takes and mappings
  pub gives-within : length given ≤ length taken
  -- a take is "refused with 10 exactly when every frame is held", by the history
  pub take-refused : take_refusal p ≡ refuse_unless (ltb (held_by taken given) size) 10 0
  -- of every frame: it was taken once more than given where it is held, else as often
  pub each-frame : (pfn : ℕ) → times pfn taken ≡ times pfn given + bit (holds p pfn)
  -- a give is refused with 11 exactly where the frame was not taken more often than given
  pub give-refused : (pfn : ℕ)
      → give_refusal p pfn ≡ refuse_unless (ltb (times pfn given) (times pfn taken)) 11 0

-- "From a new pool, all free, each call handed the last one's pool"; any sequence of calls, so at the new pool and after each call
unfoldable pub BalanceOf : Calls → Type 0
BalanceOf c =
    (first size : ℕ) (reply : PoolReply) → NewPoolGives first size reply → new_refusal first size ≡ 0
    → (history : List c.Event) → KeptThroughout c reply.pool history
    → Balanced first size (taken_in c history) (given_in c history) (last_pool c reply.pool history)

-- two live takes never answer the same frame: between two calls that answer it, takes or mappings, it is given
unfoldable pub NeverTwiceLiveOf : Calls → Type 0
NeverTwiceLiveOf c =
    (first size : ℕ) (reply : PoolReply) → NewPoolGives first size reply → new_refusal first size ≡ 0
    → (before between : List c.Event) (one other : c.Event)
    → KeptThroughout c reply.pool (before ++ (one ∷ between ++ (other ∷ [])))
    → (pfn : ℕ) → c.taken_by one ≡ pfn ∷ [] → c.taken_by other ≡ pfn ∷ [] → 1 ≤ times pfn (given_in c between)

-- of takes, gives and maps
unfoldable pub Balance : Type 0
Balance = BalanceOf own_calls

unfoldable pub NeverTwiceLive : Type 0
NeverTwiceLive = NeverTwiceLiveOf own_calls
