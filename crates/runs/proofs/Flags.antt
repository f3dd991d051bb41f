-- The bits of a number: a bit changed, the complement, the low bits, the zeros below the lowest set bit, and how many are set. Assumes
-- nothing.
use Prim.Native.Nat.{ℕ, zero, suc, ◌+◌, ◌-◌, ◌*◌, ◌/◌, ◌%◌, ◌^◌, ◌≤◌, ◌<◌}
use mathlib.Core.Path.{◌≡◌, refl, sym, ap, ap₂, ◌∙◌, subst}
use mathlib.Core.Logic.{◌≢◌, ⊎_elim}
use mathlib.Core.Bool.{Bool, true, false, not, ◌&&◌}
use native.Mathlib.Nat.{div-div-eq-div-mul, div-one, mod-one, zero-add, pow-succ', mul_left_comm, eq-or-lt_of_le}
use native.Mathlib.Numerals.{one-add, add-one}
use native.Mathlib.Omega.{arith}
use lib.Dec.{eqb, ltb}
use lib.Arith.{lt-one}
use lib.Pow.{field, mod-mod-pow}
use lib.Count.{ones, count_trailing_zeros, ones_step, under, trailing_le}
use lib.Bits.{bit_and, bit_xor, and_high, xor_add_and}
use borrow.Author.Tests.{eq-eqb, ne_eqb, lt-ltb, le-ltb, ltb-true}
use Rattle.runs.specs.Bits.{flag, bit, with_flag}
use Rattle.runs.specs.Counts.{count}
use Rattle.runs.proofs.Bits.{bit_le, bit-of}
use Rattle.runs.proofs.Bools.{same_test}
use Rattle.runs.proofs.Counts.{count_add, count_same}

-- the lowest bit, and a higher one as a bit of the half
pub flag-zero : (n : ℕ) → flag 0 n ≡ eqb (n % 2) 1
flag-zero n = rw (div-one n)

half-power : (k n : ℕ) → n / 2 ^ suc k ≡ n / 2 / 2 ^ k
half-power k n = ap (λ (x : ℕ). n / x) (pow-succ' 2 k) ∙ sym (div-div-eq-div-mul n 2 (2 ^ k))

pub flag-suc : (k n : ℕ) → flag (suc k) n ≡ flag k (n / 2)
flag-suc k n = ap (λ (x : ℕ). eqb (x % 2) 1) (half-power k n)

-- two numbers with the same lowest bit, or the same half
low_same : (m n : ℕ) → m % 2 ≡ n % 2 → flag 0 m ≡ flag 0 n
low_same m n e = flag-zero m ∙ ap (λ (x : ℕ). eqb x 1) e ∙ sym (flag-zero n)

high_same : (k m n : ℕ) → m / 2 ≡ n → flag (suc k) m ≡ flag k n
high_same k m n e = flag-suc k m ∙ ap (flag k) e

-- a number's lowest bit as a truth value, and back
low_bit : (n : ℕ) → bit (flag 0 n) ≡ n % 2
low_bit n = ap bit (flag-zero n) ∙ bit-of n

bit-flag : (b : Bool) (n : ℕ) → n % 2 ≡ bit b → flag 0 n ≡ b
bit-flag true n e = flag-zero n ∙ eq-eqb (n % 2) 1 e
bit-flag false n e = flag-zero n ∙ ne_eqb (n % 2) 1 (λ h. omega arith)

twice : (k : ℕ) → 2 ^ suc k ≡ 2 * 2 ^ k
twice k = pow-succ' 2 k

-- what a set bit stands for is part of the number
flag-le : (k n : ℕ) → flag k n ≡ true → 2 ^ k ≤ n
flag-le zero n h = let e : n % 2 ≡ 1 = sym (low_bit n) ∙ ap bit h in omega arith
flag-le (suc k) n h = let l = flag-le k (n / 2) (sym (flag-suc k n) ∙ h) in rw (twice k) (omega arith)

part-le : (k n : ℕ) → bit (flag k n) * 2 ^ k ≤ n
part-le k n = by_bit (flag k n) refl
  where
    by_bit : (c : Bool) → flag k n ≡ c → bit c * 2 ^ k ≤ n
    by_bit true e = omega (arith, flag-le k n e)
    by_bit false e = omega arith

-- a bit changed: the lowest one, or one of the half
with-zero : (b : Bool) (n : ℕ) → with_flag b 0 n ≡ n / 2 * 2 + bit b
unfolding with_flag
with-zero b n = let e = low_bit n in omega arith

with-suc : (b : Bool) (k n : ℕ) → with_flag b (suc k) n ≡ with_flag b k (n / 2) * 2 + n % 2
unfolding with_flag
with-suc b k n =
    let out : bit (flag (suc k) n) * 2 ^ suc k ≡ 2 * (bit (flag k (n / 2)) * 2 ^ k) =
    double (flag (suc k) n) (flag k (n / 2)) (flag-suc k n) in
    let into : bit b * 2 ^ suc k ≡ 2 * (bit b * 2 ^ k) = double b b refl in
    let l = part-le k (n / 2) in
    rw (out, into) (omega arith)
  where
    double : (c d : Bool) → c ≡ d → bit c * 2 ^ suc k ≡ 2 * (bit d * 2 ^ k)
    double c d e = ap₂ (λ (x : Bool) (y : ℕ). bit x * y) e (twice k) ∙ mul_left_comm (bit d) 2 (2 ^ k)

pub with-same : (b : Bool) (k n : ℕ) → flag k (with_flag b k n) ≡ b
with-same b zero n = let e = with-zero b n in let l = bit_le b in bit-flag b (with_flag b 0 n) (omega arith)
with-same b (suc k) n =
    let e = with-suc b k n in high_same k (with_flag b (suc k) n) (with_flag b k (n / 2)) (omega arith) ∙ with-same b k (n / 2)

pub with-other : (b : Bool) (j k n : ℕ) → j ≢ k → flag j (with_flag b k n) ≡ flag j n
with-other b zero zero n h = absurd (h refl)
with-other b zero (suc k) n h = let e = with-suc b k n in low_same (with_flag b (suc k) n) n (omega arith)
with-other b (suc j) zero n h =
    let e = with-zero b n in let l = bit_le b in high_same j (with_flag b 0 n) (n / 2) (omega arith) ∙ sym (flag-suc j n)
with-other b (suc j) (suc k) n h =
    let e = with-suc b k n in
    high_same j (with_flag b (suc k) n) (with_flag b k (n / 2)) (omega arith)
    ∙ with-other b j k (n / 2) (λ q. h (ap suc q))
    ∙ sym (flag-suc j n)

-- an exclusive or with one bit flips it
pub xor-flips : (k n : ℕ) → bit_xor n (2 ^ k) ≡ with_flag (not (flag k n)) k n
unfolding with_flag
xor-flips k n = by_bit (flag k n) refl
  where
    one_bit : 2 ^ (1 + k) - 2 ^ k ≡ 2 ^ k
    one_bit = let e : 2 ^ (1 + k) ≡ 2 * 2 ^ k = ap (λ (x : ℕ). 2 ^ x) (one-add k) ∙ twice k in omega arith

    common : bit_and n (2 ^ k) ≡ (n / 2 ^ k % 2) * 2 ^ k
    common = ap (bit_and n) (sym one_bit) ∙ and_high n 1 k

    flipped : (c : Bool) (x : ℕ) → x + bit c * 2 ^ k * 2 ≡ n + 2 ^ k → bit c * 2 ^ k ≤ n → x ≡ n - bit c * 2 ^ k + bit (not c) * 2 ^ k
    flipped true x e l = omega arith
    flipped false x e l = omega arith

    by_bit : (c : Bool) → flag k n ≡ c → bit_xor n (2 ^ k) ≡ n - bit c * 2 ^ k + bit (not c) * 2 ^ k
    by_bit c e =
        let both : bit_and n (2 ^ k) ≡ bit c * 2 ^ k = common ∙ ap (λ (x : ℕ). x * 2 ^ k) (sym (bit-of (n / 2 ^ k)) ∙ ap bit e) in
        let sum : bit_xor n (2 ^ k) + bit_and n (2 ^ k) * 2 ≡ n + 2 ^ k = xor_add_and n (2 ^ k) in
        let part : bit c * 2 ^ k ≤ n = subst (λ (x : Bool). bit x * 2 ^ k ≤ n) e (part-le k n) in
        flipped c (bit_xor n (2 ^ k)) (ap (λ (x : ℕ). bit_xor n (2 ^ k) + x * 2) (sym both) ∙ sum) part

-- the complement of a number of w bits
pub flag-not : (w k n : ℕ) → n < 2 ^ w → k < w → flag k (2 ^ w - 1 - n) ≡ not (flag k n)
flag-not zero k n h l = absurd (omega arith)
flag-not (suc w) zero n h l = by_bit (flag 0 n) refl
  where
    by_bit : (c : Bool) → flag 0 n ≡ c → flag 0 (2 ^ suc w - 1 - n) ≡ not c
    by_bit true e =
        let o : n % 2 ≡ 1 = sym (low_bit n) ∙ ap bit e in let p = twice w in bit-flag false (2 ^ suc w - 1 - n) (omega arith)
    by_bit false e =
        let o : n % 2 ≡ 0 = sym (low_bit n) ∙ ap bit e in let p = twice w in bit-flag true (2 ^ suc w - 1 - n) (omega arith)
flag-not (suc w) (suc k) n h l =
    let p = twice w in
    high_same k (2 ^ suc w - 1 - n) (2 ^ w - 1 - n / 2) (omega arith) ∙ flag-not w k (n / 2) (omega arith) (omega arith)
    ∙ ap not (sym (flag-suc k n))

-- the low r bits of a number
pub flag-none : (k : ℕ) → flag k 0 ≡ false
flag-none zero = refl
flag-none (suc k) = flag-suc k 0 ∙ flag-none k

ltb-suc : (k r : ℕ) → ltb (suc k) (suc r) ≡ ltb k r
ltb-suc k r = same_test (ltb (suc k) (suc r)) (ltb k r)
    (λ h. lt-ltb k r (let l = ltb-true (suc k) (suc r) h in omega arith))
    (λ h. lt-ltb (suc k) (suc r) (let l = ltb-true k r h in omega arith))

pub flag-low : (r k n : ℕ) → flag k (n % 2 ^ r) ≡ ltb k r && flag k n
flag-low zero k n = ap (flag k) (mod-one n) ∙ flag-none k ∙ sym (ap (λ (b : Bool). b && flag k n) (le-ltb k 0 (omega arith)))
flag-low (suc r) zero n =
    low_same (n % 2 ^ suc r) n (ap (λ (x : ℕ). n % 2 ^ x % 2) (sym (add-one r)) ∙ mod-mod-pow n r 1)
    ∙ sym (ap (λ (b : Bool). b && flag 0 n) (lt-ltb 0 (suc r) (omega arith)))
flag-low (suc r) (suc k) n =
    high_same k (n % 2 ^ suc r) (n / 2 % 2 ^ r) (ap (λ (x : ℕ). n % 2 ^ x / 2) (sym (add-one r)) ∙ field n r 1)
    ∙ flag-low r k (n / 2) ∙ ap₂ ◌&&◌ (sym (ltb-suc k r)) (sym (flag-suc k n))

-- how many bits are set
pub ones-count : (w n : ℕ) → n < 2 ^ w → ones n ≡ count (λ k. flag k n) w
unfolding ones count
ones-count zero n h = ap ones (lt-one h)
ones-count (suc w) n h =
    let p = twice w in
    ones_step n
    ∙ ap₂ ◌+◌ (sym (zero-add (bit (flag 0 n)) ∙ low_bit n))
    (ones-count w (n / 2) (omega arith)
    ∙ count_same (λ k. flag k (n / 2)) (λ k. flag (1 + k) n) w (λ k l. sym (ap (λ (j : ℕ). flag j n) (one-add k) ∙ flag-suc k n)))
    ∙ sym (ap (count (λ k. flag k n)) (sym (one-add w)) ∙ count_add (λ k. flag k n) 1 w)

-- the zeros below the lowest set bit
pub record Trailing (w n t : ℕ) : Type 0 where
  pub clear-below : (k : ℕ) → k < t → flag k n ≡ false
  pub set_there : t < w → flag t n ≡ true

pub trailing : (w n : ℕ) → Trailing w n (count_trailing_zeros w n)
unfolding count_trailing_zeros
trailing zero n = record { clear-below = λ k l. absurd (omega arith); set_there = λ l. absurd (omega arith) }
trailing (suc w) n = by_bit (n % 2) refl (trailing w (n / 2))
  where
    by_bit : (d : ℕ) → n % 2 ≡ d → Trailing w (n / 2) (count_trailing_zeros w (n / 2)) → Trailing (suc w) n (under d (count_trailing_zeros w (n / 2)))
    by_bit zero e half = record {
      clear-below = clear;
      set_there = λ l. flag-suc (count_trailing_zeros w (n / 2)) n ∙ half.set_there (omega arith);
    }
      where
        clear : (k : ℕ) → k < suc (count_trailing_zeros w (n / 2)) → flag k n ≡ false
        clear zero l = bit-flag false n e
        clear (suc k) l = flag-suc k n ∙ half.clear-below k (omega arith)
    by_bit (suc d) e half = record { clear-below = λ k l. absurd (omega arith); set_there = λ l. bit-flag true n (omega arith) }

no_bits : (w n : ℕ) → n < 2 ^ w → ((k : ℕ) → k < w → flag k n ≡ false) → n ≡ 0
no_bits zero n h c = lt-one h
no_bits (suc w) n h c =
    let p = twice w in
    let low : n % 2 ≡ 0 = sym (low_bit n) ∙ ap bit (c 0 (omega arith)) in
    let rest : n / 2 ≡ 0 = no_bits w (n / 2) (omega arith) (λ k l. sym (flag-suc k n) ∙ c (suc k) (omega arith)) in
    omega arith

-- a number that is not 0 has a lowest set bit, below its zeros' count none
pub trailing_lt : (w n : ℕ) → n < 2 ^ w → n ≢ 0 → count_trailing_zeros w n < w
trailing_lt w n h ne =
    ⊎_elim (λ (e : count_trailing_zeros w n ≡ w). absurd (ne (no_bits w n h (λ k l. (trailing w n).clear-below k (omega arith)))))
    (λ l. l) (eq-or-lt_of_le (trailing_le w n))
