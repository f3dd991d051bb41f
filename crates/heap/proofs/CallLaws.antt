-- The ways through the calls on a pool. Assumes nothing.
use Prim.Native.Nat.{ℕ, ◌+◌, ◌-◌, ◌≤◌, ◌<◌}
use mathlib.Core.Path.{◌≡◌, refl, sym, ap, ◌∙◌, subst}
use mathlib.Core.Logic.{◌≢◌, ⊎_elim}
use mathlib.Core.Bool.{Bool, true, false, not, ◌&&◌}
use mathlib.Core.List.{List}
use native.Mathlib.Omega.{arith}
use lib.Dec.{leb, ltb}
use borrow.Author.Tests.{not-true, not-false, leb-true, ltb-true}
use Rattle.runs.specs.Counts.{lowest}
use Rattle.runs.proofs.Bools.{is_false, clash, both}
use Rattle.runs.proofs.Counts.{all-at, all_from, none_or_some, lowest-none, lowest-true}
use Rattle.registers.specs.Refusals.{refuse_unless, by_refusal}
use Rattle.registers.specs.Replies.{refusal_of}
use Rattle.registers.specs.declared.Outcome.{Outcome}
use Rattle.registers.specs.declared.Outcome.TheVariants.{Done, Refused}
use Rattle.registers.proofs.RefusalLaws.{refuse-here, refuse-later, when-accepted, when-refused, told-refusal}
use Rattle.heap.specs.Bits.{held_at, free_at, with_held}
use Rattle.heap.specs.Pools.{frames_fit, pool_fits, is_full, lowest_free, held_frames, holds, pool_with, done_pool, refused_pool}
use Rattle.heap.specs.NewPool.{new_refusal, new_reply, clear_pool, NewPoolGives}
use Rattle.heap.specs.Take.{full_refusal, take_refusal, taken_pfn, taken_pool, take_reply, TakeGives}
use Rattle.heap.specs.Give.{give_refusal, given_pool, give_reply, GiveGives}
use Rattle.heap.specs.Held.{held_refusal, held_outcome, HeldGives}
use Rattle.heap.specs.declared.Pool.{Pool}
use Rattle.heap.specs.declared.PoolReply.{PoolReply}
use Rattle.heap.proofs.PoolLaws.{Room, pool-in}

-- a reply of a call on a pool, by the number that the call is refused with
module _ (p after : Pool) (value number n : ℕ) (nq : n ≡ number) (reply : PoolReply) where
  pub pool-refused : n ≢ 0 → reply ≡ refused_pool n p → reply ≡ by_refusal number (done_pool value after) (refused_pool number p)
  pool-refused h q = when-refused number n nq _ _ reply h (q ∙ ap (λ (k : ℕ). refused_pool k p) nq)

  pub pool-done : n ≡ 0 → reply ≡ done_pool value after → reply ≡ by_refusal number (done_pool value after) (refused_pool number p)
  pool-done z q = when-accepted number n nq _ _ reply z q

pub pool-told : (p after : Pool) (value number : ℕ) (reply : PoolReply)
    → reply ≡ by_refusal number (done_pool value after) (refused_pool number p) → refusal_of reply.outcome ≡ number
unfolding refusal_of
pool-told p after value number reply q =
    ap (λ (s : PoolReply). refusal_of s.outcome) q
    ∙ told-refusal number (done_pool value after) (refused_pool number p) (λ (s : PoolReply). s.outcome) (λ z. refl) refl

-- new pool
module _ (first size : ℕ) (t : Bool) (tq : t ≡ frames_fit first size) (reply : PoolReply) where
  new-gives : reply ≡ new_reply first size → NewPoolGives first size reply
  unfolding new_reply
  new-gives q = record { refusal_is = pool-told _ _ _ _ reply q; reply-is = q }

  pub new-refused : not t ≡ true → reply ≡ refused_pool 1 (clear_pool 0 0) → NewPoolGives first size reply
  unfolding new_reply new_refusal
  new-refused h q = new-gives (pool-refused _ _ _ _ 1 (refuse-here _ t 1 0 tq h) reply (λ z. omega arith) q)

  pub new-done : not t ≡ false → reply ≡ done_pool 0 (clear_pool first size) → NewPoolGives first size reply
  unfolding new_reply new_refusal
  new-done h q = new-gives (pool-done _ _ _ _ 0 (refuse-later _ t 1 0 tq 0 h refl) reply refl q)

module _ (p : Pool) where
  -- the search for a free frame: it ends at the size exactly where every frame is held
  pub search-full : lowest_free p ≡ p.size → is_full p ≡ true
  unfolding lowest_free is_full free_at
  search-full e =
      ⊎_elim (λ none. all_from (held_at p.bits) p.size (λ k l. not-false (held_at p.bits k) (none k l)))
      (λ some. let found = (lowest-true (free_at p.bits) p.size p.size some).1 in absurd (omega (arith, e)))
      (none_or_some (free_at p.bits) p.size)

  pub record Found : Type 0 where
    pub not_full : is_full p ≡ false
    pub inside : lowest_free p < p.size
    pub was_free : held_at p.bits (lowest_free p) ≡ false

  pub search-found : lowest_free p ≢ p.size → Found
  unfolding lowest_free is_full free_at
  search-found ne =
      ⊎_elim (λ none. absurd (ne (lowest-none (free_at p.bits) p.size p.size none)))
      (λ some.
      let found = lowest-true (free_at p.bits) p.size p.size some in
      let free = not-true (held_at p.bits (lowest (free_at p.bits) p.size p.size)) found.0 in record {
        not_full = is_false (is_full p) (λ h. clash (all-at (held_at p.bits) p.size _ h found.1) free);
        inside = found.1;
        was_free = free;
      })
      (none_or_some (free_at p.bits) p.size)

  pub full-refusal : lowest_free p ≡ p.size → 10 ≡ full_refusal p
  unfolding full_refusal refuse_unless
  full-refusal e = sym (rw (search-full e))

  pub no-full-refusal : lowest_free p ≢ p.size → 0 ≡ full_refusal p
  unfolding full_refusal refuse_unless
  no-full-refusal ne = sym (rw (search-found ne).not_full)

  -- the frame that was found, by the place that the code has
  module _ (fits : pool_fits p ≡ true) (place : ℕ) (pq : place ≡ lowest_free p) (ne : place ≢ p.size) where
    found : Found
    found = search-found (λ e. ne (pq ∙ e))

    pub place-room : Room p.first p.size place
    place-room = record {
      inside = subst (λ (k : ℕ). k < p.size) (sym pq) found.inside;
      at_most = (pool-in p fits).at_most;
      in_memory = (pool-in p fits).in_memory;
    }

    pub pfn-is : p.first + place ≡ taken_pfn p
    unfolding taken_pfn
    pfn-is = ap (λ (k : ℕ). p.first + k) pq

    pub pool-after : (bits : List ℕ) → bits ≡ with_held (not (held_at p.bits place)) place p.bits
        → record { first = p.first; size = p.size; bits = bits } ≡ taken_pool p
    unfolding taken_pool pool_with
    pool-after bits q =
        ap (λ (x : List ℕ). record { first = p.first; size = p.size; bits = x })
        (q ∙ ap (λ (k : ℕ). with_held (not (held_at p.bits k)) k p.bits) pq
        ∙ ap (λ (b : Bool). with_held (not b) (lowest_free p) p.bits) found.was_free)

  -- take, give and held: where the pool does not fit, and where it does
  module _ (t : Bool) (tq : t ≡ frames_fit p.first p.size) where
    fits-test : t ≡ pool_fits p
    unfolding pool_fits
    fits-test = tq

    pub fits-now : not t ≡ false → pool_fits p ≡ true
    fits-now h = sym fits-test ∙ not-false t h

    pub unfit : (later : ℕ) → not t ≡ true → 1 ≡ refuse_unless (pool_fits p) 1 later
    unfit later h = refuse-here _ t 1 later fits-test h

    pub fit : (n later : ℕ) → not t ≡ false → n ≡ later → n ≡ refuse_unless (pool_fits p) 1 later
    fit n later h q = refuse-later _ t 1 later fits-test n h q

  module _ (reply : PoolReply) where
    pub take_gives : reply ≡ take_reply p → TakeGives p reply
    unfolding take_reply
    take_gives q = record { refusal_is = pool-told _ _ _ _ reply q; reply-is = q }

    pub take-refused : (n : ℕ) → n ≡ take_refusal p → n ≢ 0 → reply ≡ refused_pool n p → TakeGives p reply
    unfolding take_reply
    take-refused n nq h q = take_gives (pool-refused _ _ _ _ n nq reply h q)

    pub take_done : 0 ≡ take_refusal p → reply ≡ done_pool (taken_pfn p) (taken_pool p) → TakeGives p reply
    unfolding take_reply
    take_done nq q = take_gives (pool-done _ _ _ _ 0 nq reply refl q)

  module _ (pfn : ℕ) where
    -- what a held frame's pfn tells
    pub record HeldPfn : Type 0 where
      pub from_first : p.first ≤ pfn
      pub inside : pfn - p.first < p.size
      pub is_held : held_at p.bits (pfn - p.first) ≡ true

    pub held-pfn : holds p pfn ≡ true → HeldPfn
    unfolding holds
    held-pfn h =
        let outer = both (leb p.first pfn && ltb pfn (p.first + p.size)) (held_at p.bits (pfn - p.first)) h in
        let inner = both (leb p.first pfn) (ltb pfn (p.first + p.size)) outer.0 in
        let low = leb-true p.first pfn inner.0 in
        let high = ltb-true pfn (p.first + p.size) inner.1 in
        record { from_first = low; inside = omega arith; is_held = outer.1 }

    module _ (reply : PoolReply) where
      pub give-gives : reply ≡ give_reply p pfn → GiveGives p pfn reply
      unfolding give_reply
      give-gives q = record { refusal_is = pool-told _ _ _ _ reply q; reply-is = q }

      pub give-refused : (n : ℕ) → n ≡ give_refusal p pfn → n ≢ 0 → reply ≡ refused_pool n p → GiveGives p pfn reply
      unfolding give_reply
      give-refused n nq h q = give-gives (pool-refused _ _ _ _ n nq reply h q)

      pub give-done : 0 ≡ give_refusal p pfn → reply ≡ done_pool 0 (given_pool p pfn) → GiveGives p pfn reply
      unfolding give_reply
      give-done nq q = give-gives (pool-done _ _ _ _ 0 nq reply refl q)

    pub pool-back : holds p pfn ≡ true → (bits : List ℕ)
        → bits ≡ with_held (not (held_at p.bits (pfn - p.first))) (pfn - p.first) p.bits
        → record { first = p.first; size = p.size; bits = bits } ≡ given_pool p pfn
    unfolding given_pool pool_with
    pool-back h bits q =
        ap (λ (x : List ℕ). record { first = p.first; size = p.size; bits = x })
        (q ∙ ap (λ (b : Bool). with_held (not b) (pfn - p.first) p.bits) (held-pfn h).is_held)

  -- held
  module _ (outcome : Outcome) where
    held_gives : outcome ≡ held_outcome p → HeldGives p outcome
    unfolding held_outcome refusal_of
    held_gives q = record {
      refusal_is =
          ap refusal_of q
          ∙ told-refusal (held_refusal p) (Done (held_frames p)) (Refused (held_refusal p)) (λ (o : Outcome). o) (λ z. refl) refl;
      outcome-is = q;
    }

    pub held-refused : (n : ℕ) → n ≡ held_refusal p → n ≢ 0 → outcome ≡ Refused n → HeldGives p outcome
    unfolding held_outcome
    held-refused n nq h q = held_gives (when-refused _ n nq _ _ outcome h (q ∙ ap Refused nq))

    pub held-done : 0 ≡ held_refusal p → outcome ≡ Done (held_frames p) → HeldGives p outcome
    unfolding held_outcome
    held-done nq q = held_gives (when-accepted _ 0 nq _ _ outcome refl q)
