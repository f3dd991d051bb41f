-- The words that hold a pool's bits: one bit flipped, and the turns of the loops over the words. Assumes nothing.
use Prim.Native.Nat.{ℕ, ◌+◌, ◌-◌, ◌*◌, ◌/◌, ◌%◌, ◌^◌, ◌≤◌, ◌<◌}
use mathlib.Core.Path.{◌≡◌, refl, sym, ap, ap₂, ◌∙◌, subst}
use mathlib.Core.Logic.{◌≢◌}
use mathlib.Core.Bool.{Bool, true, false, not, ◌&&◌}
use mathlib.Core.List.{List}
use native.Mathlib.Nat.{mod-eq_of_lt, mod-le, one-mul, lt_of_lt_of_le, lt_of_le_of_lt}
use native.Mathlib.Omega.{arith}
use lib.Dec.{ltb}
use lib.ListN.{get_or, set}
use lib.Pow.{pow_mono, pow_pos, shl_exact}
use lib.Count.{ones, count_trailing_zeros}
use lib.Bits.{bit_xor}
use borrow.Author.Tests.{lt-ltb, ltb-true, ltb-false}
use Rattle.runs.specs.Bits.{flag}
use Rattle.runs.specs.Counts.{count, lowest}
use Rattle.runs.proofs.Bools.{same_test, both}
use Rattle.runs.proofs.Counts.{count_add, count_same, count-le, lowest-none}
use Rattle.heap.specs.Bits.{held_at, free_at, with_held}
use Rattle.runs.proofs.Flags.{flag-low, flag-not, flag-none, xor-flips, ones-count, trailing, trailing_lt}
use Rattle.runs.proofs.Counts.{lowest-is, count-below}

-- one shifted by less than a word's width, as the code computes it
pub shift_one : (k : ℕ) → k < 64 → 1 * 2 ^ k % 2 ^ 64 ≡ 2 ^ k
shift_one k l = shl_exact 1 k 64 (omega arith) (omega arith) ∙ one-mul (2 ^ k)

pub shift-pos : (k : ℕ) → k < 64 → 0 < 1 * 2 ^ k % 2 ^ 64
shift-pos k l = subst (λ (x : ℕ). 0 < x) (sym (shift_one k l)) (pow_pos k)

-- a word has no more bits than are asked for
pub all-low : (n k : ℕ) → n < 2 ^ 64 → 64 ≤ k → n ≡ n % 2 ^ k
all-low n k h l = sym (mod-eq_of_lt (lt_of_lt_of_le h (pow_mono l)))

-- one bit flipped
pub flipped-bit : (bits after : List ℕ) (place word : ℕ) → word ≡ get_or bits (place / 64) 0
    → after ≡ set bits (place / 64) (bit_xor word (1 * 2 ^ (place % 64) % 2 ^ 64)) → after ≡ with_held (not (held_at bits place)) place bits
unfolding with_held held_at
flipped-bit bits after place word wq q =
    q ∙ ap (set bits (place / 64))
    (ap₂ bit_xor wq (shift_one (place % 64) (omega arith)) ∙ xor-flips (place % 64) (get_or bits (place / 64) 0))

-- the bit at a place of the word k
held_in : (bits : List ℕ) (k word j : ℕ) → word ≡ get_or bits k 0 → j < 64 → held_at bits (64 * k + j) ≡ flag j word
unfolding held_at
held_in bits k word j wq l =
    let which : (64 * k + j) / 64 ≡ k = omega arith in
    let within : (64 * k + j) % 64 ≡ j = omega arith in
    ap₂ (λ (a b : ℕ). flag a (get_or bits b 0)) within which ∙ ap (flag j) (sym wq)

same-bound : (k j size : ℕ) → ltb j (size - 64 * k) ≡ ltb (64 * k + j) size
same-bound k j size = same_test (ltb j (size - 64 * k)) (ltb (64 * k + j) size)
    (λ h. lt-ltb (64 * k + j) size (let l = ltb-true j (size - 64 * k) h in omega arith))
    (λ h. lt-ltb j (size - 64 * k) (let l = ltb-true (64 * k + j) size h in omega arith))

low-lt : (n k : ℕ) → n < 2 ^ 64 → n % 2 ^ k < 2 ^ 64
low-lt n k h = lt_of_le_of_lt (mod-le n (2 ^ k)) h

module _ (bits : List ℕ) (size : ℕ) where
  -- the words passed have no free frame within the size
  abbrev pub NoneFree : (word : ℕ) → Type 0
  NoneFree word = (i : ℕ) → i < 64 * word → i < size → free_at bits i ≡ false

  pub none-begin : NoneFree 0
  none-begin i l h = absurd (omega arith)

  pub none_end : (word : ℕ) → NoneFree word → size ≤ 64 * word → size ≡ lowest (free_at bits) size size
  none_end word none l = sym (lowest-none (free_at bits) size size (λ i h. none i (omega arith) h))

  -- the free word of the word k: its complement within the size
  module _ (k word free : ℕ) (wq : word ≡ get_or bits k 0) (fits : word < 2 ^ 64)
      (fq : free ≡ (2 ^ 64 - 1 - word) % 2 ^ (size - 64 * k)) where
    pub free-lt : free < 2 ^ 64
    free-lt = subst (λ (n : ℕ). n < 2 ^ 64) (sym fq) (low-lt (2 ^ 64 - 1 - word) (size - 64 * k) (omega arith))

    free-flag : (j : ℕ) → j < 64 → flag j free ≡ ltb (64 * k + j) size && free_at bits (64 * k + j)
    unfolding free_at
    free-flag j l =
        ap (flag j) fq ∙ flag-low (size - 64 * k) j (2 ^ 64 - 1 - word)
        ∙ ap₂ ◌&&◌ (same-bound k j size) (flag-not 64 j word fits l ∙ ap not (sym (held_in bits k word j wq l)))

    free-false : (j : ℕ) → j < 64 → flag j free ≡ false → 64 * k + j < size → free_at bits (64 * k + j) ≡ false
    free-false j l e h = sym (free-flag j l ∙ ap (λ (b : Bool). b && free_at bits (64 * k + j)) (lt-ltb (64 * k + j) size h)) ∙ e

    -- what stands below the free word's bit t
    below : NoneFree k → (t : ℕ) → t ≤ 64 → ((j : ℕ) → j < t → flag j free ≡ false)
        → (i : ℕ) → i < 64 * k + t → i < size → free_at bits i ≡ false
    below none t tl clear i l h = by-test (ltb i (64 * k)) refl
      where
        by-test : (b : Bool) → ltb i (64 * k) ≡ b → free_at bits i ≡ false
        by-test true e = none i (ltb-true i (64 * k) e) h
        by-test false e =
            let from = ltb-false i (64 * k) e in
            let at : 64 * k + (i - 64 * k) ≡ i = omega arith in
            subst (λ (x : ℕ). free_at bits x ≡ false) at
            (free-false (i - 64 * k) (omega arith) (clear (i - 64 * k) (omega arith)) (omega arith))

    pub none-turn : NoneFree k → free ≡ 0 → NoneFree (k + 1)
    none-turn none z i l h = below none 64 (omega arith) (λ j jl. ap (flag j) z ∙ flag-none j) i (omega arith) h

    pub free-found : NoneFree k → free ≢ 0
        → (64 * k + count_trailing_zeros 64 free ≡ lowest (free_at bits) size size) × (64 * k + count_trailing_zeros 64 free < size)
    free-found none ne =
        let t = count_trailing_zeros 64 free in
        let tl = trailing_lt 64 free free-lt ne in
        let there = both (ltb (64 * k + t) size) (free_at bits (64 * k + t)) (sym (free-flag t tl) ∙ (trailing 64 free).set_there tl) in
        let inside = ltb-true (64 * k + t) size there.0 in (
          sym (lowest-is (free_at bits) size size (64 * k + t) inside there.1
              (λ i l. below none t (omega arith) (trailing 64 free).clear-below i l (omega arith))),
          inside,
        )

  -- the frames of the first words that are held, within the size
  abbrev pub held_within : (i : ℕ) → Bool
  held_within i = ltb i size && held_at bits i

  pub held-le : (number word : ℕ) → number ≡ count held_within (64 * word) → number ≤ 64 * word
  held-le number word q = subst (λ (n : ℕ). n ≤ 64 * word) (sym q) (count-le held_within (64 * word))

  pub held-turn : (number k word held : ℕ) → word ≡ get_or bits k 0 → word < 2 ^ 64 → held ≡ word % 2 ^ (size - 64 * k)
      → number ≡ count held_within (64 * k) → (number + ones held ≡ count held_within (64 * (k + 1))) × (ones held ≤ 64)
  held-turn number k word held wq fits hq nq =
      let here : ones held ≡ count (λ j. held_within (64 * k + j)) 64 =
      ones-count 64 held (subst (λ (n : ℕ). n < 2 ^ 64) (sym hq) (low-lt word (size - 64 * k) fits))
      ∙ count_same (λ j. flag j held) (λ j. held_within (64 * k + j)) 64 (λ j l.
      ap (flag j) hq ∙ flag-low (size - 64 * k) j word ∙ ap₂ ◌&&◌ (same-bound k j size) (sym (held_in bits k word j wq l))) in
      let next : 64 * (k + 1) ≡ 64 * k + 64 = omega arith in (
        ap₂ ◌+◌ nq here ∙ sym (ap (count held_within) next ∙ count_add held_within (64 * k) 64),
        subst (λ (n : ℕ). n ≤ 64) (sym here) (count-le (λ j. held_within (64 * k + j)) 64),
      )

  pub held-end : (number word : ℕ) → number ≡ count held_within (64 * word) → size ≤ 64 * word → number ≡ count (held_at bits) size
  held-end number word q l = q ∙ count-below (held_at bits) size (64 * word) l
