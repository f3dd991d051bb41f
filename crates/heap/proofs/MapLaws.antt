-- The ways through a map. Assumes nothing.
use Prim.Native.Nat.{ℕ, ◌+◌}
use mathlib.Core.Path.{◌≡◌, refl, sym, ap, ◌∙◌, subst}
use mathlib.Core.Logic.{◌≢◌}
use mathlib.Core.Bool.{Bool, true, false, not, cond}
use mathlib.Core.List.{List, [], ◌∷◌}
use native.Mathlib.Omega.{arith}
use lib.Dec.{eqb}
use borrow.Author.Tests.{eqb-true, eqb-false}
use Rattle.registers.specs.Replies.{refusal_of, done}
use Rattle.registers.specs.declared.Reply.{Reply}
use Rattle.registers.specs.Refusals.{refused_or, by_refusal}
use Rattle.registers.proofs.RefusalLaws.{passed, when-accepted, when-refused, told-refusal}
use Rattle.slots.specs.Buffer.{Buffer}
use Rattle.store.specs.Machine.{Machine}
use Rattle.store.specs.Rewrite.{Put, RewriteGives}
use Rattle.store.specs.Sweep.{emptied}
use Rattle.store.specs.TableStore.{store_refusal, TableStoreGives}
use Rattle.store.proofs.StoreLaws.{store-done}
use Rattle.store.proofs.Storing.{store-answers}
use Rattle.heap.specs.Bits.{held_at, with_held}
use Rattle.heap.specs.Pools.{frames_fit, pool_fits, lowest_free}
use Rattle.heap.specs.Take.{full_refusal, taken_pfn, taken_pool}
use Rattle.heap.specs.Map.{map_refusal, mapped_word, map_put, refused_map, map_answer, buffer_after_map, words_after_map, MayMap, MapGives}
use Rattle.heap.specs.declared.Pool.{Pool}
use Rattle.heap.specs.declared.Mapped.{Mapped}
use Rattle.heap.proofs.PoolLaws.{Room}
use Rattle.heap.proofs.CallLaws.{unfit, fit, full-refusal, no-full-refusal, place-room, pfn-is, pool-after}

-- what an accepted map tells of its grounds
pub record Grounds (m : Machine) (p : Pool) (index : ℕ) : Type 0 where
  pub pool-fits : pool_fits p ≡ true
  pub store-accepted : store_refusal m index ≡ 0
  pub not_full : full_refusal p ≡ 0

pub map-grounds : (m : Machine) (p : Pool) (index : ℕ) → map_refusal m p index ≡ 0 → Grounds m p index
unfolding map_refusal refused_or by_refusal
map-grounds m p index z = by-test (eqb (store_refusal m index) 0) refl checked.1
  where
    checked : (pool_fits p ≡ true) × (refused_or (store_refusal m index) (full_refusal p) ≡ 0)
    checked = passed (pool_fits p) 1 (refused_or (store_refusal m index) (full_refusal p)) (λ e. omega arith) z

    by-test : (b : Bool) → eqb (store_refusal m index) 0 ≡ b → cond b (full_refusal p) (store_refusal m index) ≡ 0 → Grounds m p index
    by-test true e h = record { pool-fits = checked.0; store-accepted = eqb-true (store_refusal m index) 0 e; not_full = h }
    by-test false e h = absurd (eqb-false (store_refusal m index) 0 e h)

module _ (m : Machine) (p : Pool) (index : ℕ) where
  -- the grounds, in their order; the pool fits where it is told so
  module _ (t : Bool) (tq : t ≡ frames_fit p.first p.size) where
    pub map-unfit : not t ≡ true → 1 ≡ map_refusal m p index
    unfolding map_refusal
    map-unfit h = unfit p t tq _ h

    module _ (h : not t ≡ false) (n : ℕ) (nq : n ≡ store_refusal m index) where
      pub map-no-store : n ≢ 0 → n ≡ map_refusal m p index
      unfolding map_refusal refused_or
      map-no-store ne = fit p t tq n _ h (when-refused _ n nq _ _ n ne nq)

      module _ (z : n ≡ 0) (place : ℕ) (pq : place ≡ lowest_free p) where
        by_frames : (k : ℕ) → k ≡ full_refusal p → k ≡ map_refusal m p index
        unfolding map_refusal refused_or
        by_frames k kq = fit p t tq k _ h (when-accepted _ n nq _ _ k z kq)

        pub map-full : place ≡ p.size → 10 ≡ map_refusal m p index
        map-full e = by_frames 10 (full-refusal p (sym pq ∙ e))

        pub may-map : place ≢ p.size → MayMap m p place index
        may-map ne = record { accepted = sym (by_frames 0 (no-full-refusal p (λ e. ne (pq ∙ e)))); place_is = pq }

-- what the lowest free frame of an accepted map has room for
module _ (m : Machine) (p : Pool) (place index : ℕ) (may : MayMap m p place index) where
  grounds : Grounds m p index
  grounds = map-grounds m p index may.accepted

  pub may-store : store_refusal m index ≡ 0
  may-store = grounds.store-accepted

  free-place : place ≢ p.size
  free-place e = let ten = full-refusal p (sym may.place_is ∙ e) in omega (arith, grounds.not_full)

  pub may-room : Room p.first p.size place
  may-room = place-room p grounds.pool-fits place may.place_is free-place

  pub may-pfn : p.first + place ≡ taken_pfn p
  may-pfn = pfn-is p grounds.pool-fits place may.place_is free-place

  pub may-pool : (bits : List ℕ) → bits ≡ with_held (not (held_at p.bits place)) place p.bits
      → record { first = p.first; size = p.size; bits = bits } ≡ taken_pool p
  may-pool bits q = pool-after p grounds.pool-fits place may.place_is free-place bits q

module _ (m : Machine) (p : Pool) (index leaf : ℕ) where
  answer-told : refusal_of (map_answer m p index leaf).reply.outcome ≡ map_refusal m p index
  unfolding map_answer refusal_of map_put
  answer-told =
      told-refusal (map_refusal m p index) _ (refused_map m.registers (map_refusal m p index) p) (λ (a : Mapped). a.reply.outcome)
      (λ z. ap (λ (s : Reply). refusal_of s.outcome) (store-answers m (map_put p index leaf) (map-grounds m p index z).store-accepted))
      refl

  -- what every answer promises
  pub map_gives : (answer : Mapped) (after : Buffer) (words : List ℕ) → answer ≡ map_answer m p index leaf
      → after ≡ buffer_after_map m p index leaf → words ≡ words_after_map m p index leaf → MapGives m p index leaf answer after words
  map_gives answer after words a b w = record {
    refusal_is = ap (λ (x : Mapped). refusal_of x.reply.outcome) a ∙ answer-told;
    answer-is = a;
    buffer-is = b;
    words_are = w;
  }

  -- a refused map
  pub map-refused : (n : ℕ) (answer : Mapped) → n ≡ map_refusal m p index → n ≢ 0 → answer ≡ refused_map m.registers n p
      → MapGives m p index leaf answer m.buffer m.words
  unfolding map_answer buffer_after_map words_after_map
  map-refused n answer nq h q =
      map_gives answer m.buffer m.words
      (when-refused _ n nq _ _ answer h (q ∙ ap (λ (k : ℕ). refused_map m.registers k p) nq))
      (when-refused _ n nq _ _ _ h refl)
      (when-refused _ n nq _ _ _ h refl)

  -- an accepted map
  module _ (place : ℕ) (may : MayMap m p place index) where
    pub map-done : (value emptied : ℕ) (reply : Reply) (bits : List ℕ) (after : Buffer) (words : List ℕ)
        → value ≡ mapped_word leaf (p.first + place)
        → RewriteGives ((record { index = index; value = value }) ∷ []) m.words words m.buffer after emptied
        → reply ≡ done m.registers emptied
        → bits ≡ with_held (not (held_at p.bits place)) place p.bits
        → MapGives m p index leaf
        (record { reply = reply; pfn = p.first + place; pool = record { first = p.first; size = p.size; bits = bits } })
        after words
    unfolding map_answer buffer_after_map words_after_map map_put
    map-done value emptied reply bits after words vq r q bits_are =
        map_gives (record { reply = reply; pfn = p.first + place; pool = record { first = p.first; size = p.size; bits = bits } })
        after words
        (when-accepted _ 0 accepted _ _ _ refl (λ i. record { reply = stored.reply-is i; pfn = pfn i; pool = pool i }))
        (when-accepted _ 0 accepted _ _ _ refl stored.buffer-is)
        (when-accepted _ 0 accepted _ _ _ refl stored.words_are)
      where
        accepted : 0 ≡ map_refusal m p index
        accepted = sym may.accepted

        pfn : p.first + place ≡ taken_pfn p
        pfn = may-pfn m p place index may

        pool : record { first = p.first; size = p.size; bits = bits } ≡ taken_pool p
        pool = may-pool m p place index may bits bits_are

        put_is : ◌≡◌ {A = Put} (record { index = index; value = value }) (map_put p index leaf)
        put_is = λ i. record { index = index; value = (vq ∙ ap (mapped_word leaf) pfn) i }

        stored : TableStoreGives m (map_put p index leaf) reply after words
        stored = store-done m (map_put p index leaf) 0 (sym (may-store m p place index may)) reply after words emptied refl
            (subst (λ (u : Put). RewriteGives (u ∷ []) m.words words m.buffer after emptied) put_is r) q
