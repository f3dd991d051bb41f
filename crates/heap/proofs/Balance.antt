-- What an account from a new pool tells: the balance. Assumes nothing.
use Prim.Native.Nat.{ℕ, ◌+◌, ◌-◌, ◌/◌, ◌%◌}
use mathlib.Core.Path.{◌≡◌, refl, sym, ap, ap₂, ◌∙◌, subst}
use mathlib.Core.Bool.{Bool, true, false, ◌&&◌}
use mathlib.Core.List.{List}
use native.Mathlib.Nat.{add-zero}
use native.Mathlib.Omega.{arith}
use lib.Dec.{leb, ltb}
use borrow.Author.Tests.{lt-ltb, le-ltb}
use lib.ListN.{length, length-replicate}
use Rattle.runs.specs.Bits.{flag, bit}
use Rattle.runs.proofs.Bools.{and-false}
use Rattle.runs.proofs.Counts.{count_none}
use Rattle.runs.proofs.Fills.{filled_at}
use Rattle.registers.specs.Refusals.{refuse_unless, by_refusal}
use Rattle.registers.specs.declared.Outcome.TheVariants.{Done}
use Rattle.registers.proofs.RefusalLaws.{passed, when-accepted}
use Rattle.heap.specs.Bits.{held_at, free_at}
use Rattle.heap.specs.Pools.{frames_fit, pool_fits, is_full, free_frames, held_frames, holds}
use Rattle.heap.specs.NewPool.{new_refusal, clear_pool, new_reply, NewPoolGives}
use Rattle.heap.specs.Take.{full_refusal, take_refusal}
use Rattle.heap.specs.Give.{give_refusal}
use Rattle.heap.specs.Held.{held_refusal, held_outcome}
use Rattle.heap.specs.Sequences.{times}
use Rattle.heap.specs.Balance.{held_by, Balanced}
use Rattle.heap.specs.declared.Pool.{Pool}
use Rattle.heap.specs.declared.PoolReply.{PoolReply}
use Rattle.runs.proofs.Flags.{flag-none}
use Rattle.runs.proofs.Counts.{count-both, not-all}
use Rattle.heap.proofs.Marks.{Sound}
use Rattle.heap.proofs.Accounts.{Account}

-- one more of t than of g, or as many
by_bit : (b : Bool) (g t : ℕ) → t ≡ g + bit b → b ≡ ltb g t
by_bit true g t e = sym (lt-ltb g t (omega arith))
by_bit false g t e = sym (le-ltb g t (omega arith))

-- a pool with no bit set
module _ (first size : ℕ) where
  none-held : (place : ℕ) → held_at (clear_pool first size).bits place ≡ false
  unfolding held_at clear_pool
  none-held place = ap (flag (place % 64)) (filled_at {A = ℕ} 0 64 (place / 64)) ∙ flag-none (place % 64)

  holds-none : (pfn : ℕ) → holds (clear_pool first size) pfn ≡ false
  unfolding holds
  holds-none pfn =
      let p = clear_pool first size in
      let within = leb p.first pfn && ltb pfn (p.first + p.size) in
      ap (λ (b : Bool). within && b) (none-held (pfn - p.first)) ∙ and-false within

  no_frames : held_frames (clear_pool first size) ≡ 0
  unfolding held_frames
  no_frames = count_none (held_at (clear_pool first size).bits) (clear_pool first size).size (λ k l. none-held k)

  module _ (reply : PoolReply) (made : NewPoolGives first size reply) (z : new_refusal first size ≡ 0) where
    new_is : reply.pool ≡ clear_pool first size
    unfolding new_reply
    new_is = ap (λ (s : PoolReply). s.pool) (made.reply-is ∙ sym (when-accepted _ 0 (sym z) _ _ _ refl refl))

    pub new-sound : Sound reply.pool
    unfolding new_refusal clear_pool pool_fits
    new-sound = subst Sound (sym new_is) (record {
      all_words = length-replicate {A = ℕ} 64 0;
      fits = (passed (frames_fit first size) 1 0 (λ e. omega arith) z).0;
    })

    -- whatever calls led to it by these frames
    pub balanced : (now : Pool) (taken given : List ℕ) → Account reply.pool now taken given → Balanced first size taken given now
    unfolding clear_pool held_by free_frames held_frames free_at is_full held_outcome held_refusal take_refusal full_refusal give_refusal by_refusal
        refuse_unless
    balanced now taken given account-now = record {
      first-stays = told.first-same;
      size-stays = told.size_same;
      still-fits = told.sound-still.fits;
      balance = let all = count-both (held_at now.bits) now.size in let s = told.size_same in omega (arith, held);
      ones-are-held = held;
      held-answers =
          rw told.sound-still.fits (ap Done held);
      gives-within = omega (arith, counts);
      take-refused =
          rw told.sound-still.fits
          (ap (λ (b : Bool). refuse_unless b 10 0)
          (not-all (held_at now.bits) now.size ∙ ap₂ ltb held told.size_same));
      each-frame = frame-now;
      give-refused = λ pfn. rw told.sound-still.fits (ap (λ (b : Bool). refuse_unless b 11 0) (more-taken pfn));
    }
      where
        told : Account (clear_pool first size) now taken given
        told = subst (λ (p : Pool). Account p now taken given) new_is account-now

        counts : length taken ≡ length given + held_frames now
        counts = let f = told.frames in omega (arith, no_frames)

        frame-now : (pfn : ℕ) → times pfn taken ≡ times pfn given + bit (holds now pfn)
        frame-now pfn =
            sym (add-zero (times pfn taken))
            ∙ ap (λ (b : Bool). times pfn taken + bit b) (sym (holds-none pfn))
            ∙ told.frame pfn

        more-taken : (pfn : ℕ) → holds now pfn ≡ ltb (times pfn given) (times pfn taken)
        more-taken pfn =
            by_bit (holds now pfn) (times pfn given) (times pfn taken) (frame-now pfn)

        held : held_frames now ≡ length taken - length given
        held = let c = counts in omega arith
