-- The fields of a number and the number of the fields. Assumes nothing.
use Prim.Native.Nat.{ℕ, ◌+◌, ◌*◌, ◌%◌, ◌^◌, ◌≤◌, ◌<◌}
use mathlib.Core.Path.{◌≡◌, refl, sym}
use mathlib.Core.Bool.{Bool}
use native.Mathlib.Omega.{arith}
use mir.Val.{bool_byte}
use Rattle.runs.specs.Bits.{flag}
use Rattle.runs.proofs.Bits.{bits-low, bit_le, byte_le, bit_byte}
use Rattle.entry.specs.Address.{vpn_of, location, slot_of}
use Rattle.entry.specs.Entry.{unpack, join, low_bits, pack, EntryFits}
use Rattle.entry.specs.Empty.{empty_fields, empty_entry}
use Rattle.entry.specs.declared.Entry.{Entry}

-- the fields, some of them taken out by other functions
pub fields-of : (e vpn15 page-id : ℕ) (global valid : Bool) → vpn15 ≡ (unpack e).vpn15 → page-id ≡ (unpack e).page_id
    → global ≡ (unpack e).global → valid ≡ (unpack e).valid
    → record { vpn15 = vpn15; page_id = page-id; global = global; valid = valid; kernel = flag 20 e; we = flag 19 e; pfn = e % 2 ^ 19 }
    ≡ unpack e
unfolding unpack
fields-of e vpn15 page-id global valid a b c d =
    λ j. record { vpn15 = a j; page_id = b j; global = c j; valid = d j; kernel = flag 20 e; we = flag 19 e; pfn = sym (bits-low 18 e) j }

-- the four flags as the code casts them
pub flag-bytes : (f : Entry) → (bool_byte f.global ≤ 1) × (bool_byte f.valid ≤ 1) × (bool_byte f.kernel ≤ 1) × (bool_byte f.we ≤ 1)
flag-bytes f = (byte_le f.global, byte_le f.valid, byte_le f.kernel, byte_le f.we)

pub low-lt : (f : Entry) → EntryFits f → low_bits f < 2 ^ 23
unfolding low_bits
low-lt f h = omega (arith, bit_le f.global, bit_le f.valid, bit_le f.kernel, bit_le f.we, h.pfn-fits)

pub low_sum : (f : Entry) → EntryFits f
    → let flags = bool_byte f.global * 4194304 + bool_byte f.valid * 2097152 + bool_byte f.kernel * 1048576 in
    let n = flags + bool_byte f.we * 524288 + f.pfn in
    (n ≡ low_bits f) × (n < 2 ^ 23)
unfolding low_bits
low_sum f h =
    rw (bit_byte f.global, bit_byte f.valid, bit_byte f.kernel, bit_byte f.we) (refl, low-lt f h)

-- an entry has 44 bits
pub join-lt : (vpn15 page-id low : ℕ) → vpn15 < 2 ^ 15 → page-id < 2 ^ 6 → low < 2 ^ 23 → join vpn15 page-id low < 2 ^ 44
unfolding join
join-lt vpn15 page-id low h k l = omega arith

pub pack-lt : (f : Entry) → EntryFits f → pack f < 2 ^ 44
unfolding pack
pack-lt f h = join-lt f.vpn15 f.page_id (low_bits f) h.vpn15-fits h.page-id-fits (low-lt f h)

pub unpack-fits : (e : ℕ) → EntryFits (unpack e)
unfolding unpack
unpack-fits e = record { vpn15-fits = omega arith; page-id-fits = omega arith; pfn-fits = omega arith }

pub empty-fits : (set : ℕ) → set < 4 → EntryFits (empty_fields set)
unfolding empty_fields
empty-fits set h = record { vpn15-fits = omega arith; page-id-fits = omega arith; pfn-fits = omega arith }

pub empty-lt : (set : ℕ) → set < 4 → empty_entry set < 2 ^ 44
unfolding empty_entry
empty-lt set h = pack-lt (empty_fields set) (empty-fits set h)

-- the slots of a page are slots of the buffer
pub slot_lt : (set vpn : ℕ) → set < 4 → slot_of set vpn < 64
unfolding slot_of location
slot_lt set vpn h = omega arith

-- a vpn has nineteen bits
pub vpn-lt : (address : ℕ) → vpn_of address < 2 ^ 19
unfolding vpn_of
vpn-lt address = omega arith
