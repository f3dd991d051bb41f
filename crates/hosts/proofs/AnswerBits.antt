-- The fields of an answer, taken out again. Assumes nothing.
use Prim.Native.Nat.{ℕ, ◌+◌, ◌*◌, ◌/◌, ◌%◌, ◌≤◌, ◌<◌}
use mathlib.Core.Path.{◌≡◌, ap, ◌∙◌}
use mathlib.Core.Bool.{Bool, true, false}
use native.Mathlib.Omega.{arith}
use lib.Dec.{eqb}
use borrow.Author.Tests.{eq-eqb, ne_eqb}
use Rattle.runs.specs.Bits.{bits, flag, bit}
use Rattle.runs.proofs.Bits.{bit_le}
use Rattle.mmu_c.specs.Answers.{refusal_answer, access_answer}
use Rattle.hosts.specs.Reading.{EmptiedRead, RefusalRead}

-- the fields of an access's answer
pub record AccessRead (address value loads answer : ℕ) (located interrupts exception : Bool) : Type 0 where
  pub address_is : bits 31 0 answer ≡ address
  pub value-is : bits 47 32 answer ≡ value
  pub loads-are : bits 51 48 answer ≡ loads
  pub located-is : flag 52 answer ≡ located
  pub interrupts-is : flag 53 answer ≡ interrupts
  pub exception-is : flag 54 answer ≡ exception
  pub not-refused : bits 63 55 answer ≡ 0

low_bit : (b : Bool) (n rest : ℕ) → n ≡ bit b + rest * 2 → eqb (n % 2) 1 ≡ b
low_bit true n rest q = eq-eqb (n % 2) 1 (omega arith)
low_bit false n rest q = ne_eqb (n % 2) 1 (λ e. omega arith)

module _ (address value loads l i e n : ℕ) (al : address < 4294967296) (vl : value < 65536) (dl : loads < 16) (ll : l ≤ 1) (il : i ≤ 1)
    (el : e ≤ 1) (q : n ≡ address + value * 4294967296 + loads * 281474976710656 + l * 4503599627370496 + i * 9007199254740992
    + e * 18014398509481984) where
  from-32 : n / 4294967296 ≡ value + loads * 65536 + l * 1048576 + i * 2097152 + e * 4194304
  from-32 = omega arith

  from-48 : n / 281474976710656 ≡ loads + l * 16 + i * 32 + e * 64
  from-48 = omega arith

  from-52 : n / 4503599627370496 ≡ l + i * 2 + e * 4
  from-52 = omega arith

  from-53 : n / 9007199254740992 ≡ i + e * 2
  from-53 = omega arith

  from-54 : n / 18014398509481984 ≡ e
  from-54 = omega arith

module _ (address value loads : ℕ) (located interrupts exception : Bool) (al : address < 4294967296) (vl : value < 65536) (dl : loads < 16)
  where
    abbrev n : ℕ
    n = access_answer address value loads located interrupts exception

    pub access-read : AccessRead address value loads (access_answer address value loads located interrupts exception) located interrupts exception
    unfolding access_answer
    access-read =
        let ll = bit_le located in
        let il = bit_le interrupts in
        let el = bit_le exception in
        let v = from-32 address value loads (bit located) (bit interrupts) (bit exception) n al vl dl ll il el (omega arith) in
        let d = from-48 address value loads (bit located) (bit interrupts) (bit exception) n al vl dl ll il el (omega arith) in
        let f = from-52 address value loads (bit located) (bit interrupts) (bit exception) n al vl dl ll il el (omega arith) in
        let g = from-53 address value loads (bit located) (bit interrupts) (bit exception) n al vl dl ll il el (omega arith) in
        let h = from-54 address value loads (bit located) (bit interrupts) (bit exception) n al vl dl ll il el (omega arith) in
        record {
          address_is = omega arith;
          value-is = ap (λ (x : ℕ). x % 65536) v ∙ omega arith;
          loads-are = ap (λ (x : ℕ). x % 16) d ∙ omega arith;
          located-is = low_bit located (n / 4503599627370496) (bit interrupts + bit exception * 2) (omega (arith, f));
          interrupts-is = low_bit interrupts (n / 9007199254740992) (bit exception) (omega (arith, g));
          exception-is = low_bit exception (n / 18014398509481984) 0 (omega (arith, h));
          not-refused = omega arith;
        }

pub refusal-read : (number : ℕ) → number < 256 → RefusalRead (refusal_answer number) number
unfolding refusal_answer
refusal-read number l = record { number_is = omega arith; no_more = omega arith }

pub emptied-read : (emptied : ℕ) → emptied < 4294967296 → EmptiedRead emptied emptied
emptied-read emptied l = record { emptied-are = omega arith; no_more = omega arith }
