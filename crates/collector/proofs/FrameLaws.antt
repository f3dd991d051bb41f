-- Frames can be given one after another exactly where none is mapped twice or unheld. Assumes nothing.
use Prim.Native.Nat.{ℕ, ◌+◌, ◌-◌, ◌≤◌, ◌<◌}
use mathlib.Core.Path.{◌≡◌, refl, sym, ap, ◌∙◌, subst}
use mathlib.Core.Bool.{Bool, true, false, not, ◌&&◌, ◌||◌}
use mathlib.Core.List.{List, [], ◌∷◌}
use native.Mathlib.Omega.{arith}
use lib.Dec.{eqb, leb}
use borrow.Author.Tests.{eqb-true, eq-eqb, leb-true, leb-false, le-leb, not-true}
use Rattle.runs.specs.Bits.{bit}
use Rattle.runs.specs.Counts.{any}
use Rattle.runs.proofs.Bits.{bit_le}
use Rattle.runs.proofs.Bools.{is_false, clash, both, and_both, same_test}
use Rattle.runs.proofs.Counts.{any_at, any-from}
use Rattle.registers.specs.Refusals.{refuse_unless}
use Rattle.registers.proofs.RefusalLaws.{passed, when-accepted}
use Rattle.heap.specs.Bits.{held_at}
use Rattle.heap.specs.Pools.{pool_fits, holds}
use Rattle.heap.specs.Give.{give_refusal, given_pool, give_reply}
use Rattle.heap.specs.Sequences.{times}
use Rattle.heap.specs.declared.Pool.{Pool}
use Rattle.heap.specs.declared.PoolReply.{PoolReply}
use Rattle.heap.proofs.PoolLaws.{holds-inside}
use Rattle.heap.proofs.Marks.{Sound}
use Rattle.heap.proofs.Accounts.{Account, nothing, both-parts, frame-given}
use Rattle.collector.specs.Frames.{mapped_twice, mapped_unheld, all_given, pool_after_gives}

-- no frame stands in a list more often than it is held
abbrev pub Within : Pool → List ℕ → Type 0
Within p pfns = (pfn : ℕ) → times pfn pfns ≤ bit (holds p pfn)

module _ (p : Pool) (sound : Sound p) (pfn : ℕ) where
  pub held-accepted : holds p pfn ≡ true → give_refusal p pfn ≡ 0
  unfolding give_refusal refuse_unless
  held-accepted h = rw (sound.fits, h)

  pub accepted-held : give_refusal p pfn ≡ 0 → holds p pfn ≡ true
  unfolding give_refusal
  accepted-held z = (passed (holds p pfn) 11 0 (λ e. omega arith) (passed (pool_fits p) 1 _ (λ e. omega arith) z).1).0

  pub pool-given : give_refusal p pfn ≡ 0 → (give_reply p pfn).pool ≡ given_pool p pfn
  unfolding give_reply
  pool-given z = ap (λ (x : PoolReply). x.pool) (sym (when-accepted _ 0 (sym z) _ _ _ refl refl))

  -- the account of one give
  pub one-given : give_refusal p pfn ≡ 0 → Account p (give_reply p pfn).pool [] (pfn ∷ [])
  one-given z = subst (λ (q : Pool). Account p q [] (pfn ∷ [])) (sym (pool-given z)) (frame-given p sound pfn (accepted-held z))

pub all-within : (p : Pool) → Sound p → (pfns : List ℕ) → all_given p pfns ≡ true → Within p pfns
unfolding all_given times
all-within p sound [] h pfn = omega arith
all-within p sound (x ∷ xs) h pfn =
    let parts = both (eqb (give_refusal p x) 0) (all_given (give_reply p x).pool xs) h in
    let z = eqb-true (give_refusal p x) 0 parts.0 in
    let a = one-given p sound x z in
    let rest = all-within (give_reply p x).pool a.sound-still xs parts.1 pfn in
    omega (arith, a.frame pfn)

pub within_all : (p : Pool) → Sound p → (pfns : List ℕ) → Within p pfns → all_given p pfns ≡ true
unfolding all_given times
within_all p sound [] w = refl
within_all p sound (x ∷ xs) w = and_both (eq-eqb (give_refusal p x) 0 z) (within_all (give_reply p x).pool a.sound-still xs rest)
  where
    held : (b : Bool) → bit (eqb x x) + times x xs ≤ bit b → b ≡ true
    held true l = refl
    held false l = let e : bit (eqb x x) ≡ 1 = ap bit (eq-eqb x x refl) in absurd (omega arith)

    z : give_refusal p x ≡ 0
    z = held-accepted p sound x (held (holds p x) (w x))

    a : Account p (give_reply p x).pool [] (x ∷ [])
    a = one-given p sound x z

    rest : (pfn : ℕ) → times pfn xs ≤ bit (holds (give_reply p x).pool pfn)
    rest pfn = omega (arith, a.frame pfn, w pfn)

-- what the pool owes after gives that are all within
pub gives-account : (p : Pool) → Sound p → (pfns : List ℕ) → all_given p pfns ≡ true → Account p (pool_after_gives p pfns) [] pfns
unfolding all_given pool_after_gives
gives-account p sound [] h = nothing p sound
gives-account p sound (x ∷ xs) h =
    let parts = both (eqb (give_refusal p x) 0) (all_given (give_reply p x).pool xs) h in
    let a = one-given p sound x (eqb-true (give_refusal p x) 0 parts.0) in
    both-parts p (give_reply p x).pool (pool_after_gives (give_reply p x).pool xs) [] (x ∷ []) [] xs a
    (gives-account (give_reply p x).pool a.sound-still xs parts.1)

-- a part of the list can be given too
pub fewer-given : (p : Pool) → Sound p → (pfns fewer : List ℕ) → ((pfn : ℕ) → times pfn fewer ≤ times pfn pfns) → all_given p pfns ≡ true
    → all_given p fewer ≡ true
fewer-given p sound pfns fewer less h = within_all p sound fewer (λ pfn. omega (arith, less pfn, all-within p sound pfns h pfn))

-- number 12 by places
module _ (p : Pool) (sound : Sound p) (pfns : List ℕ)
    (inside : (pfn : ℕ) → 1 ≤ times pfn pfns → (p.first ≤ pfn) × (pfn - p.first < p.size)) where
  at_place : (place : ℕ) → place < p.size → holds p (p.first + place) ≡ held_at p.bits place
  at_place place l =
      holds-inside p (p.first + place) (omega arith) (omega arith)
      ∙ ap (held_at p.bits) (let e : p.first + place - p.first ≡ place = omega arith in e)

  wrong : Bool
  wrong = mapped_twice p pfns || mapped_unheld p pfns

  within-right : Within p pfns → (mapped_twice p pfns ≡ false) × (mapped_unheld p pfns ≡ false)
  unfolding mapped_twice mapped_unheld
  within-right w = (
    is_false (any (λ place. leb 2 (times (p.first + place) pfns)) p.size)
        (λ h. let s = any_at (λ place. leb 2 (times (p.first + place) pfns)) p.size h in
        let l = leb-true 2 (times (p.first + s.0) pfns) s.2 in
        omega (arith, w (p.first + s.0), bit_le (holds p (p.first + s.0)))),
    is_false (any (λ place. leb 1 (times (p.first + place) pfns) && not (held_at p.bits place)) p.size)
        (λ h. let s = any_at (λ place. leb 1 (times (p.first + place) pfns) && not (held_at p.bits place)) p.size h in
        let parts = both (leb 1 (times (p.first + s.0) pfns)) (not (held_at p.bits s.0)) s.2 in
        let l = leb-true 1 (times (p.first + s.0) pfns) parts.0 in
        let f = ap bit (at_place s.0 s.1 ∙ not-true (held_at p.bits s.0) parts.1) in
        omega (arith, w (p.first + s.0))),
  )

  right-within : mapped_twice p pfns ≡ false → mapped_unheld p pfns ≡ false → Within p pfns
  unfolding mapped_twice mapped_unheld
  right-within one two pfn = by_count (leb 1 (times pfn pfns)) refl
    where
      by-held : (b : Bool) → holds p pfn ≡ b → 1 ≤ times pfn pfns → times pfn pfns ≤ bit b
      by-held b e l = go (leb 2 (times pfn pfns)) refl b e
        where
          place : ℕ
          place = pfn - p.first

          at : p.first + (pfn - p.first) ≡ pfn
          at = let i = (inside pfn l).0 in omega arith

          go : (t : Bool) → leb 2 (times pfn pfns) ≡ t → (c : Bool) → holds p pfn ≡ c → times pfn pfns ≤ bit c
          go true q c f = absurd (clash (any-from (λ k. leb 2 (times (p.first + k) pfns)) p.size (pfn - p.first) (inside pfn l).1
              (subst (λ (n : ℕ). leb 2 (times n pfns) ≡ true) (sym at) q)) one)
          go false q true f = let m = leb-false 2 (times pfn pfns) q in omega arith
          go false q false f = absurd (clash (any-from (λ k. leb 1 (times (p.first + k) pfns) && not (held_at p.bits k)) p.size
              (pfn - p.first)
              (inside pfn l).1
              (and_both (subst (λ (n : ℕ). leb 1 (times n pfns) ≡ true) (sym at) (le-leb 1 (times pfn pfns) l))
              (ap not (sym (holds-inside p pfn (inside pfn l).0 (inside pfn l).1) ∙ f)))) two)

      by_count : (t : Bool) → leb 1 (times pfn pfns) ≡ t → times pfn pfns ≤ bit (holds p pfn)
      by_count true e = by-held (holds p pfn) refl (leb-true 1 (times pfn pfns) e)
      by_count false e = let m = leb-false 1 (times pfn pfns) e in omega arith

  pub frames-right : all_given p pfns ≡ not (mapped_twice p pfns) && not (mapped_unheld p pfns)
  frames-right =
      same_test (all_given p pfns) (not (mapped_twice p pfns) && not (mapped_unheld p pfns))
      (λ h. let r = within-right (all-within p sound pfns h) in and_both (ap not r.0) (ap not r.1))
      (λ h. let parts = both (not (mapped_twice p pfns)) (not (mapped_unheld p pfns)) h in
      within_all p sound pfns (right-within (not-true (mapped_twice p pfns) parts.0) (not-true (mapped_unheld p pfns) parts.1)))
