-- Laws of fields and bits. Assumes nothing.
use Prim.Native.Nat.{ℕ, zero, suc, ◌+◌, ◌/◌, ◌%◌, ◌^◌, ◌≤◌, ◌<◌}
use mathlib.Core.Path.{◌≡◌, refl, sym, subst}
use mathlib.Core.Bool.{Bool, true, false}
use native.Mathlib.Nat.{add-sub_cancel_left, div-one, sub-zero}
use native.Mathlib.Omega.{arith}
use lib.Dec.{eqb}
use mir.Val.{bool_byte}
use Rattle.runs.specs.Bits.{bits, bit}

-- a field whose place is computed
pub bits-wide : (low wide n : ℕ) → bits (low + wide) low n ≡ n / 2 ^ low % 2 ^ (wide + 1)
bits-wide low wide n = rw add-sub_cancel_left

-- a field that ends at bit 0
pub bits-low : (high n : ℕ) → bits high 0 n ≡ n % 2 ^ (high + 1)
bits-low high n = rw (div-one, sub-zero)

pub bit_le : (b : Bool) → bit b ≤ 1
bit_le true = omega arith
bit_le false = omega arith

-- a truth value cast to a number is its bit
pub bit_byte : (b : Bool) → bool_byte b ≡ bit b
bit_byte true = refl
bit_byte false = refl

pub byte_le : (b : Bool) → bool_byte b ≤ 1
byte_le b = subst (λ (n : ℕ). n ≤ 1) (sym (bit_byte b)) (bit_le b)

-- a number's lowest bit, tested and cast back
pub bit-of : (n : ℕ) → bit (eqb (n % 2) 1) ≡ n % 2
bit-of n = below (n % 2) (omega arith)
  where
    below : (m : ℕ) → m < 2 → bit (eqb m 1) ≡ m
    below zero h = refl
    below (suc zero) h = refl
    below (suc (suc m)) h = absurd (omega arith)
