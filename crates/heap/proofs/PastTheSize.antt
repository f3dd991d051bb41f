-- Bits past the size are ignored. Assumes nothing.
use Prim.Native.Nat.{ℕ, ◌+◌, ◌-◌, ◌/◌, ◌<◌}
use mathlib.Core.Path.{◌≡◌, refl, sym, ap, ap₂, ◌∙◌, subst}
use mathlib.Core.Bool.{Bool, true, false, not, cond, ◌&&◌}
use mathlib.Core.List.{List}
use native.Mathlib.Omega.{arith}
use lib.Dec.{eqb, leb, ltb}
use lib.ListN.{length}
use borrow.Author.Tests.{eqb-true, eqb-false, leb-true, ltb-true}
use Rattle.runs.specs.Counts.{all, count, lowest}
use Rattle.runs.proofs.Bools.{both}
use Rattle.runs.proofs.Counts.{all_same, count_same, lowest-same}
use Rattle.registers.specs.Refusals.{refuse_unless, refused_or, by_refusal}
use Rattle.registers.specs.Replies.{refused}
use Rattle.registers.specs.declared.Outcome.TheVariants.{Done, Refused}
use Rattle.registers.proofs.RefusalLaws.{passed, by_part}
use Rattle.store.specs.Machine.{Machine}
use Rattle.store.specs.Rewrite.{Put}
use Rattle.store.specs.TableStore.{store_refusal, store_reply, buffer_after_store, words_after_store}
use Rattle.heap.specs.Bits.{held_at, free_at, with_held}
use Rattle.heap.specs.Pools.{frames_fit, pool_fits, is_full, lowest_free, held_frames, holds, pool_with}
use Rattle.heap.specs.Take.{full_refusal, take_refusal, taken_pfn, taken_pool, take_reply}
use Rattle.heap.specs.Give.{give_refusal, given_pool, give_reply}
use Rattle.heap.specs.Held.{held_refusal, held_outcome}
use Rattle.heap.specs.Map.{map_refusal, mapped_word, map_put, map_answer, buffer_after_map, words_after_map}
use Rattle.heap.specs.PastTheSize.{SameFrames, AnsweredAlike, PastIgnored}
use Rattle.heap.specs.declared.Pool.{Pool}
use Rattle.heap.specs.declared.PoolReply.{PoolReply}
use Rattle.heap.specs.declared.Mapped.{Mapped}
use Rattle.heap.proofs.PoolLaws.{pool-in}
use Rattle.heap.proofs.CallLaws.{held-pfn}
use Rattle.heap.proofs.MapLaws.{map-grounds}
use Rattle.heap.proofs.Marks.{mark-same, mark-other}
use Rattle.heap.proofs.Accounts.{free-frame}

-- the pools of two answers that are accepted or refused together
leaves-same : {A : Type 0} (f : A → Pool) (n k : ℕ) → n ≡ k → (a r c d : A) → (n ≡ 0 → SameFrames (f a) (f c)) → SameFrames (f r) (f d)
    → SameFrames (f (by_refusal n a r)) (f (by_refusal k c d))
unfolding by_refusal
leaves-same {A} f n k e a r c d accepted refused =
    subst (λ (m : ℕ). SameFrames (f (by_refusal n a r)) (f (by_refusal m c d))) e (by-test (eqb n 0) refl)
  where
    by-test : (b : Bool) → eqb n 0 ≡ b → SameFrames (f (cond b a r)) (f (cond b c d))
    by-test true z = accepted (eqb-true n 0 z)
    by-test false z = refused

module _ (p q : Pool) (same : SameFrames p q) where
  fits-same : pool_fits p ≡ pool_fits q
  unfolding pool_fits
  fits-same = ap₂ frames_fit same.first-same same.size_same

  full-same : is_full p ≡ is_full q
  unfolding is_full
  full-same = all_same (held_at p.bits) (held_at q.bits) p.size same.held_same ∙ ap (all (held_at q.bits)) same.size_same

  held_same : held_frames p ≡ held_frames q
  unfolding held_frames
  held_same = count_same (held_at p.bits) (held_at q.bits) p.size same.held_same ∙ ap (count (held_at q.bits)) same.size_same

  place_same : lowest_free p ≡ lowest_free q
  unfolding lowest_free free_at
  place_same =
      lowest-same (free_at p.bits) (free_at q.bits) p.size p.size (λ k l. ap not (same.held_same k l))
      ∙ ap (λ (n : ℕ). lowest (free_at q.bits) n n) same.size_same

  pfn-same : taken_pfn p ≡ taken_pfn q
  unfolding taken_pfn
  pfn-same = ap₂ ◌+◌ same.first-same place_same

  holds_same : (pfn : ℕ) → holds p pfn ≡ holds q pfn
  unfolding holds
  holds_same pfn =
      by-bounds (leb p.first pfn && ltb pfn (p.first + p.size)) refl
      ∙ ap₂ (λ (first size : ℕ). leb first pfn && ltb pfn (first + size) && held_at q.bits (pfn - first))
      same.first-same same.size_same
    where
      by-bounds : (b : Bool) → leb p.first pfn && ltb pfn (p.first + p.size) ≡ b
          → b && held_at p.bits (pfn - p.first) ≡ b && held_at q.bits (pfn - p.first)
      by-bounds true e =
          let bounds = both (leb p.first pfn) (ltb pfn (p.first + p.size)) e in
          let low = leb-true p.first pfn bounds.0 in
          let high = ltb-true pfn (p.first + p.size) bounds.1 in
          same.held_same (pfn - p.first) (omega arith)
      by-bounds false e = refl

  -- the refusals
  no-room-same : full_refusal p ≡ full_refusal q
  unfolding full_refusal
  no-room-same = ap (λ (b : Bool). refuse_unless (not b) 10 0) full-same

  take-refusal-same : take_refusal p ≡ take_refusal q
  unfolding take_refusal
  take-refusal-same = ap₂ (λ (b : Bool) (n : ℕ). refuse_unless b 1 n) fits-same no-room-same

  map-refusal-same : (m : Machine) (index : ℕ) → map_refusal m p index ≡ map_refusal m q index
  unfolding map_refusal
  map-refusal-same m index = ap₂ (λ (b : Bool) (n : ℕ). refuse_unless b 1 (refused_or (store_refusal m index) n)) fits-same no-room-same

  put_same : (index leaf : ℕ) → map_put p index leaf ≡ map_put q index leaf
  unfolding map_put
  put_same index leaf = ap (λ (n : ℕ). record { index = index; value = mapped_word leaf n }) pfn-same

  -- the pools that are left: the same frame changes in both
  module _ (p-long : length p.bits ≡ 64) (q-long : length q.bits ≡ 64) where
    changed-same : (b : Bool) (place : ℕ) → pool_fits p ≡ true → place < p.size → SameFrames (pool_with b place p) (pool_with b place q)
    unfolding pool_with
    changed-same b place fits l = record {
      first-same = same.first-same;
      size_same = same.size_same;
      held_same = λ k kl. by_place k kl (eqb k place) refl;
    }
      where
        in_words : (bits : List ℕ) → length bits ≡ 64 → place / 64 < length bits
        in_words bits long = omega (arith, (pool-in p fits).at_most)

        by_place : (k : ℕ) → k < p.size → (t : Bool) → eqb k place ≡ t
            → held_at (with_held b place p.bits) k ≡ held_at (with_held b place q.bits) k
        by_place k kl true e =
            ap (held_at (with_held b place p.bits)) (eqb-true k place e)
            ∙ mark-same b place p.bits (in_words p.bits p-long)
            ∙ sym (mark-same b place q.bits (in_words q.bits q-long))
            ∙ ap (held_at (with_held b place q.bits)) (sym (eqb-true k place e))
        by_place k kl false e =
            mark-other b place p.bits (in_words p.bits p-long) k (eqb-false k place e)
            ∙ same.held_same k kl
            ∙ sym (mark-other b place q.bits (in_words q.bits q-long) k (eqb-false k place e))

    taken-same : pool_fits p ≡ true → full_refusal p ≡ 0 → SameFrames (taken_pool p) (taken_pool q)
    unfolding taken_pool
    taken-same fits h =
        subst (λ (n : ℕ). SameFrames (pool_with true (lowest_free p) p) (pool_with true n q)) place_same
        (changed-same true (lowest_free p) fits (free-frame p h).inside)

    given-same : (pfn : ℕ) → pool_fits p ≡ true → holds p pfn ≡ true → SameFrames (given_pool p pfn) (given_pool q pfn)
    unfolding given_pool
    given-same pfn fits h =
        subst (λ (n : ℕ). SameFrames (pool_with false (pfn - p.first) p) (pool_with false (pfn - n) q)) same.first-same
        (changed-same false (pfn - p.first) fits (held-pfn p pfn h).inside)

    alike : AnsweredAlike p q
    unfolding take_reply take_refusal give_reply give_refusal held_outcome held_refusal map_answer buffer_after_map words_after_map
    alike = record {
      take-alike =
          by_part (take_refusal p) _ _ (λ (s : PoolReply). s.outcome)
          ∙ ap₂ (λ (n v : ℕ). by_refusal n (Done v) (Refused n)) take-refusal-same pfn-same
          ∙ sym (by_part (take_refusal q) _ _ (λ (s : PoolReply). s.outcome));
      give-alike = λ pfn.
          by_part _ _ _ (λ (s : PoolReply). s.outcome)
          ∙ ap (λ (n : ℕ). by_refusal n (Done 0) (Refused n))
          (ap₂ (λ (b c : Bool). refuse_unless b 1 (refuse_unless c 11 0)) fits-same (holds_same pfn))
          ∙ sym (by_part _ _ _ (λ (s : PoolReply). s.outcome));
      held-alike =
          ap₂ (λ (b : Bool) (n : ℕ). by_refusal (refuse_unless b 1 0) (Done n) (Refused (refuse_unless b 1 0))) fits-same held_same;
      map-reply-alike = λ m index leaf.
          by_part _ _ _ (λ (a : Mapped). a.reply)
          ∙ ap₂ (λ (n : ℕ) (put : Put). by_refusal n (store_reply m put) (refused m.registers n))
          (map-refusal-same m index) (put_same index leaf)
          ∙ sym (by_part _ _ _ (λ (a : Mapped). a.reply));
      map-pfn-alike = λ m index leaf.
          by_part _ _ _ (λ (a : Mapped). a.pfn)
          ∙ ap₂ (λ (n v : ℕ). by_refusal n v 0) (map-refusal-same m index) pfn-same
          ∙ sym (by_part _ _ _ (λ (a : Mapped). a.pfn));
      map-buffer-alike = λ m index leaf.
          ap₂ (λ (n : ℕ) (put : Put). by_refusal n (buffer_after_store m put) m.buffer) (map-refusal-same m index) (put_same index leaf);
      map-words-alike = λ m index leaf.
          ap₂ (λ (n : ℕ) (put : Put). by_refusal n (words_after_store m put) m.words) (map-refusal-same m index) (put_same index leaf);
      take-leaves =
          leaves-same (λ (s : PoolReply). s.pool) (take_refusal p) (take_refusal q) take-refusal-same _ _ _ _
          (λ z.
          let checked = passed (pool_fits p) 1 (full_refusal p) (λ e. omega arith) z in
          taken-same checked.0 checked.1)
          same;
      give-leaves = λ pfn.
          leaves-same (λ (s : PoolReply). s.pool) (give_refusal p pfn) (give_refusal q pfn)
          (ap₂ (λ (b c : Bool). refuse_unless b 1 (refuse_unless c 11 0)) fits-same (holds_same pfn)) _ _ _ _
          (λ z.
          let checked = passed (pool_fits p) 1 (refuse_unless (holds p pfn) 11 0) (λ e. omega arith) z in
          given-same pfn checked.0 (passed (holds p pfn) 11 0 (λ e. omega arith) checked.1).0)
          same;
      map-leaves = λ m index leaf.
          leaves-same (λ (a : Mapped). a.pool) (map_refusal m p index) (map_refusal m q index) (map-refusal-same m index) _ _ _ _
          (λ z. let grounds = map-grounds m p index z in taken-same grounds.pool-fits grounds.not_full)
          same;
    }

pub past-ignored : PastIgnored
unfolding PastIgnored
past-ignored p q p-long q-long same = alike p q same p-long q-long
