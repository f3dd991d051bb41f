-- Packing an entry and taking it apart undo each other, for every value of the fields. Assumes nothing.
use Prim.Native.Nat.{ℕ, ◌+◌, ◌*◌, ◌/◌, ◌%◌, ◌^◌, ◌≤◌}
use mathlib.Core.Path.{◌≡◌}
use mathlib.Core.Bool.{Bool, true, false}
use native.Mathlib.Omega.{arith}
use native.Mathlib.Nat.{add_assoc}
use lib.Dec.{eqb}
use borrow.Author.Tests.{eq-eqb, ne_eqb}
use Rattle.runs.specs.Bits.{bit, bits}
use Rattle.runs.proofs.Bits.{bits-low, bit_le, bit-of}
use Rattle.entry.specs.Entry.{unpack, join, low_bits, pack}
use Rattle.entry.specs.RoundTrips.{UnpackPack, PackUnpack}

-- a bit that is told from a number
flag-back : (b : Bool) (n : ℕ) → n ≡ bit b → eqb n 1 ≡ b
flag-back true n h = eq-eqb n 1 h
flag-back false n h = ne_eqb n 1 (λ q. omega arith)

pub unpack-pack : UnpackPack
unfolding unpack pack join low_bits
unpack-pack f h = λ j. record {
  vpn15 = vpn15-back j;
  page_id = page-id-back j;
  global = flag-back f.global (pack f / 2 ^ 22 % 2) (omega (arith, flags)) j;
  valid = flag-back f.valid (pack f / 2 ^ 21 % 2) (omega (arith, flags)) j;
  kernel = flag-back f.kernel (pack f / 2 ^ 20 % 2) (omega (arith, flags)) j;
  we = flag-back f.we (pack f / 2 ^ 19 % 2) (omega (arith, flags)) j;
  pfn = pfn-back j;
}
  where
    flags : (bit f.global ≤ 1) × (bit f.valid ≤ 1) × (bit f.kernel ≤ 1) × (bit f.we ≤ 1)
    flags = (bit_le f.global, bit_le f.valid, bit_le f.kernel, bit_le f.we)

    vpn15-back : bits 43 29 (pack f) ≡ f.vpn15
    vpn15-back = omega (arith, flags)

    page-id-back : bits 28 23 (pack f) ≡ f.page_id
    page-id-back = omega (arith, flags)

    pfn-back : bits 18 0 (pack f) ≡ f.pfn
    pfn-back = omega (arith, flags)

-- a number's low bits, taken apart at each field's lowest bit
module _ (e : ℕ) where
  at-29 : e % 2 ^ 44 ≡ bits 43 29 e * 2 ^ 29 + e % 2 ^ 29
  at-29 = omega arith

  at-23 : e % 2 ^ 29 ≡ bits 28 23 e * 2 ^ 23 + e % 2 ^ 23
  at-23 = omega arith

  at-22 : e % 2 ^ 23 ≡ e / 2 ^ 22 % 2 * 2 ^ 22 + e % 2 ^ 22
  at-22 = omega arith

  at-21 : e % 2 ^ 22 ≡ e / 2 ^ 21 % 2 * 2 ^ 21 + e % 2 ^ 21
  at-21 = omega arith

  at-20 : e % 2 ^ 21 ≡ e / 2 ^ 20 % 2 * 2 ^ 20 + e % 2 ^ 20
  at-20 = omega arith

  at-19 : e % 2 ^ 20 ≡ e / 2 ^ 19 % 2 * 2 ^ 19 + e % 2 ^ 19
  at-19 = omega arith

low-44 : (e : ℕ) → pack (unpack e) ≡ e % 2 ^ 44
unfolding unpack pack join low_bits
low-44 e =
    rw (bit-of (e / 2 ^ 22), bit-of (e / 2 ^ 21), bit-of (e / 2 ^ 20), bit-of (e / 2 ^ 19))
    (rw (at-29 e, at-23 e, at-22 e, at-21 e, at-20 e, at-19 e) (simp (add_assoc, bits-low 18 e)))

pub pack-unpack : PackUnpack
pack-unpack = low-44
