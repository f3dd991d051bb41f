-- What calls on a pool change, one after another: each frame, the number held, and nothing past the size. Assumes nothing.
use Prim.Native.Nat.{ℕ, ◌+◌, ◌-◌, ◌^◌, ◌≤◌, ◌<◌}
use mathlib.Core.Path.{◌≡◌, refl, sym, ap, ap₂, ◌∙◌, subst}
use mathlib.Core.Logic.{◌≢◌, ⊎_elim}
use mathlib.Core.Bool.{Bool, true, false, not, cond}
use mathlib.Core.List.{List, [], ◌∷◌, ◌++◌}
use native.Mathlib.Nat.{zero-add, add_comm}
use native.Mathlib.Omega.{arith}
use lib.Dec.{eqb}
use lib.ListN.{length, length-append}
use borrow.Author.Tests.{eqb-true, eqb-false, eq-eqb, ne_eqb, not-true}
use Rattle.runs.specs.Bits.{bit}
use Rattle.runs.proofs.Bools.{clash}
use Rattle.registers.specs.Refusals.{refuse_unless}
use Rattle.registers.specs.Replies.{done}
use Rattle.registers.specs.declared.Reply.{Reply}
use Rattle.registers.proofs.RefusalLaws.{passed, by_number}
use Rattle.slots.specs.Buffer.{Buffer}
use Rattle.store.specs.Machine.{Machine}
use Rattle.store.specs.Sweep.{emptied}
use Rattle.store.specs.TableStore.{store_refusal, stored_words, store_reply}
use Rattle.heap.specs.Bits.{held_at}
use Rattle.heap.specs.Pools.{pool_fits, is_full, lowest_free, held_frames, holds, pool_with}
use Rattle.heap.specs.Take.{full_refusal, take_refusal, taken_pfn, taken_pool, take_reply, TakeGives}
use Rattle.heap.specs.Give.{give_refusal, given_pool, give_reply, GiveGives}
use Rattle.heap.specs.Map.{map_put, map_answer, MapGives}
use Rattle.heap.specs.Sequences.{times}
use Rattle.heap.specs.Histories.{Event, Kept, pool_left, if_done, done_value, taken_by, given_by}
use Rattle.heap.specs.Histories.Event.{Take, Give, Map}
use Rattle.heap.specs.declared.Pool.{Pool}
use Rattle.heap.specs.declared.PoolReply.{PoolReply}
use Rattle.heap.specs.declared.Mapped.{Mapped}
use Rattle.heap.proofs.PoolLaws.{pool-in}
use Rattle.heap.proofs.CallLaws.{Found, search-full, search-found, held-pfn}
use Rattle.heap.proofs.MapLaws.{map-grounds}
use Rattle.store.proofs.Storing.{store-answers}
use Rattle.heap.proofs.Marks.{Sound, mark-sound, mark-past, mark-frames, mark-this, mark-rest}

-- from a pool to another by frames taken and frames given
pub record Account (p q : Pool) (taken given : List ℕ) : Type 0 where
  pub sound-still : Sound q
  pub first-same : q.first ≡ p.first
  pub size_same : q.size ≡ p.size
  pub frames : length taken + held_frames p ≡ length given + held_frames q
  pub frame : (pfn : ℕ) → times pfn taken + bit (holds p pfn) ≡ times pfn given + bit (holds q pfn)
  pub past : (place : ℕ) → p.size ≤ place → held_at q.bits place ≡ held_at p.bits place

pub nothing : (p : Pool) → Sound p → Account p p [] []
nothing p sound = record {
  sound-still = sound;
  first-same = refl;
  size_same = refl;
  frames = refl;
  frame = λ pfn. refl;
  past = λ place l. refl;
}

pub times-append : (pfn : ℕ) (xs ys : List ℕ) → times pfn (xs ++ ys) ≡ times pfn xs + times pfn ys
unfolding times
times-append pfn [] ys = sym (zero-add (times pfn ys))
times-append pfn (x ∷ xs) ys = let h = times-append pfn xs ys in omega arith

pub both-parts : (p q r : Pool) (a b c d : List ℕ) → Account p q a b → Account q r c d → Account p r (a ++ c) (b ++ d)
both-parts p q r a b c d one two = record {
  sound-still = two.sound-still;
  first-same = two.first-same ∙ one.first-same;
  size_same = two.size_same ∙ one.size_same;
  frames = rw (length-append a c, length-append b d) (let f = one.frames in let g = two.frames in omega arith);
  frame = λ pfn. rw (times-append pfn a c, times-append pfn b d) (let f = one.frame pfn in let g = two.frame pfn in omega arith);
  past = λ place l. two.past place (subst (λ (n : ℕ). n ≤ place) (sym one.size_same) l) ∙ one.past place l;
}

-- one frame, taken where b is true and else given
abbrev picked : (b : Bool) (pfn : ℕ) → List ℕ
picked b pfn = cond b (pfn ∷ []) []

picked-length : (b : Bool) (pfn : ℕ) → length (picked b pfn) ≡ bit b
picked-length true pfn = refl
picked-length false pfn = refl

picked-times : (b : Bool) (pfn : ℕ) → times pfn (picked b pfn) ≡ bit b
unfolding times
picked-times true pfn = ap (λ (t : Bool). bit t + 0) (eq-eqb pfn pfn refl)
picked-times false pfn = refl

picked-never : (b : Bool) (pfn other : ℕ) → pfn ≢ other → times pfn (picked b other) ≡ 0
unfolding times
picked-never true pfn other ne = ap (λ (t : Bool). bit t + 0) (ne_eqb other pfn (λ e. ne (sym e)))
picked-never false pfn other ne = refl

module _ (p : Pool) (sound : Sound p) (b : Bool) (place : ℕ) (inside : place < p.size) (was : held_at p.bits place ≡ not b) where
  one-frame : Account p (pool_with b place p) (picked b (p.first + place)) (picked (not b) (p.first + place))
  unfolding pool_with
  one-frame = record {
    sound-still = mark-sound p sound b place inside was;
    first-same = refl;
    size_same = refl;
    frames =
        let h = mark-frames p sound b place inside was in
        let t = picked-length b (p.first + place) in
        let g = picked-length (not b) (p.first + place) in
        omega arith;
    frame = λ pfn. by-pfn pfn (eqb pfn (p.first + place)) refl;
    past = mark-past p sound b place inside was;
  }
    where
      by-pfn : (pfn : ℕ) (t : Bool) → eqb pfn (p.first + place) ≡ t
          → times pfn (picked b (p.first + place)) + bit (holds p pfn)
          ≡ times pfn (picked (not b) (p.first + place)) + bit (holds (pool_with b place p) pfn)
      by-pfn pfn true e =
          let this = mark-this p sound b place inside was in
          rw (eqb-true pfn (p.first + place) e)
          (ap₂ ◌+◌ (picked-times b (p.first + place)) (ap bit this.0)
          ∙ add_comm (bit b) (bit (not b))
          ∙ sym (ap₂ ◌+◌ (picked-times (not b) (p.first + place)) (ap bit this.1)))
      by-pfn pfn false e =
          let ne = eqb-false pfn (p.first + place) e in
          ap₂ ◌+◌ (picked-never b pfn (p.first + place) ne ∙ sym (picked-never (not b) pfn (p.first + place) ne))
          (ap bit (sym (mark-rest p sound b place inside was pfn ne)))

-- the frame that a take finds
module _ (p : Pool) (h : full_refusal p ≡ 0) where
  pub free-frame : Found p
  unfolding full_refusal
  free-frame =
      let some-free = (passed (not (is_full p)) 10 0 (λ e. omega arith) h).0 in
      search-found p (λ e. clash (search-full p e) (not-true (is_full p) some-free))

pub taken-below : (p : Pool) → pool_fits p ≡ true → full_refusal p ≡ 0 → taken_pfn p < 2 ^ 19
unfolding taken_pfn
taken-below p fits h = omega (arith, (pool-in p fits).in_memory, (free-frame p h).inside)

module _ (p : Pool) (sound : Sound p) where
  pub frame-taken : full_refusal p ≡ 0 → Account p (taken_pool p) (taken_pfn p ∷ []) []
  unfolding taken_pool taken_pfn
  frame-taken h = one-frame p sound true (lowest_free p) (free-frame p h).inside (free-frame p h).was_free

  pub frame-given : (pfn : ℕ) → holds p pfn ≡ true → Account p (given_pool p pfn) [] (pfn ∷ [])
  unfolding given_pool
  frame-given pfn h =
      let held = held-pfn p pfn h in
      let at : p.first + (pfn - p.first) ≡ pfn = (let l = held.from_first in omega arith) in
      subst (λ (n : ℕ). Account p (pool_with false (pfn - p.first) p) [] (n ∷ [])) at
      (one-frame p sound false (pfn - p.first) held.inside held.is_held)

-- the account of one call
module _ (p : Pool) (sound : Sound p) where
  abbrev Told : Event → Type 0
  Told e = Account p (pool_left e) (taken_by e) (given_by e)

  take-told : (reply : PoolReply) → TakeGives p reply → Told (Take reply)
  unfolding pool_left taken_by given_by done_value take_reply take_refusal
  take-told reply kept =
      ⊎_elim
      (λ done.
      let accepted = (passed (pool_fits p) 1 (full_refusal p) (λ e. omega arith) done.0).1 in
      subst (λ (s : PoolReply). Told (Take s)) (sym done.1) (frame-taken p sound accepted))
      (λ q. subst (λ (s : PoolReply). Told (Take s)) (sym q) (nothing p sound))
      (by_number _ _ _ reply kept.reply-is)

  give-told : (pfn : ℕ) (reply : PoolReply) → GiveGives p pfn reply → Told (Give pfn reply)
  unfolding pool_left taken_by given_by if_done give_reply give_refusal
  give-told pfn reply kept =
      ⊎_elim
      (λ done.
      let checked = (passed (pool_fits p) 1 (refuse_unless (holds p pfn) 11 0) (λ e. omega arith) done.0).1 in
      let held = (passed (holds p pfn) 11 0 (λ e. omega arith) checked).0 in
      subst (λ (s : PoolReply). Told (Give pfn s)) (sym done.1) (frame-given p sound pfn held))
      (λ q. subst (λ (s : PoolReply). Told (Give pfn s)) (sym q) (nothing p sound))
      (by_number _ _ _ reply kept.reply-is)

  map-told : (m : Machine) (index leaf : ℕ) (answer : Mapped) (b : Buffer) (words : List ℕ) → MapGives m p index leaf answer b words
      → Told (Map m index leaf answer b words)
  unfolding pool_left taken_by given_by if_done map_answer map_put
  map-told m index leaf answer b words kept =
      ⊎_elim
      (λ done.
      let grounds = map-grounds m p index done.0 in
      subst (λ (a : Mapped). Told (Map m index leaf a b words)) (sym (done.1 ∙ answered grounds.store-accepted))
      (frame-taken p sound grounds.not_full))
      (λ q. subst (λ (a : Mapped). Told (Map m index leaf a b words)) (sym q) (nothing p sound))
      (by_number _ _ _ answer kept.answer-is)
    where
      now : ℕ
      now = emptied (stored_words m (map_put p index leaf)) m.buffer

      answered : store_refusal m index ≡ 0
          → ◌≡◌ {A = Mapped} (record { reply = store_reply m (map_put p index leaf); pfn = taken_pfn p; pool = taken_pool p })
          (record { reply = done m.registers now; pfn = taken_pfn p; pool = taken_pool p })
      answered z = ap (λ (s : Reply). record { reply = s; pfn = taken_pfn p; pool = taken_pool p }) (store-answers m (map_put p index leaf) z)

  pub account-of : (e : Event) → Kept p e → Account p (pool_left e) (taken_by e) (given_by e)
  unfolding Kept
  account-of (Take reply) kept = take-told reply kept
  account-of (Give pfn reply) kept = give-told pfn reply kept
  account-of (Map m index leaf answer b words) kept = map-told m index leaf answer b words kept

-- a call that takes a frame gives none
pub taker-gives-none : (e : Event) (pfn : ℕ) → taken_by e ≡ pfn ∷ [] → given_by e ≡ []
unfolding taken_by given_by
taker-gives-none (Take reply) pfn q = refl
taker-gives-none (Give given reply) pfn q = let z : ◌≡◌ {A = ℕ} 0 1 = ap length q in absurd (omega arith)
taker-gives-none (Map m index leaf answer b words) pfn q = refl
