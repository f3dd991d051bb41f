-- An entry: vpn15 in bits 43 to 29, page_id 28 to 23, global 22, valid 21, kernel 20, we 19, pfn 18 to 0.
use Rattle.std.specs.Prelude.{ℕ, ◌+◌, ◌*◌, ◌^◌, ◌<◌, Bool, ◌&&◌, eqb}
use Rattle.std.specs.Bool.{beq}
use Rattle.runs.specs.Bits.{bits, flag, bit}
use Rattle.entry.specs.declared.Entry.{Entry}

-- how many frames there are: a pfn has 19 bits
abbrev pub FRAMES : ℕ
FRAMES = 2 ^ 19

-- the fields of a number; bits 44 and up are ignored
unfoldable pub unpack : (e : ℕ) → Entry
unpack e = record {
  vpn15 = bits 43 29 e;
  page_id = bits 28 23 e;
  global = flag 22 e;
  valid = flag 21 e;
  kernel = flag 20 e;
  we = flag 19 e;
  pfn = bits 18 0 e;
}

-- an entry from its vpn15, its page_id and its bits 22 to 0
unfoldable pub join : (vpn15 page-id low : ℕ) → ℕ
join vpn15 page-id low = vpn15 * 2 ^ 29 + page-id * 2 ^ 23 + low

-- bits 22 to 0
unfoldable pub low_bits : Entry → ℕ
low_bits f = bit f.global * 2 ^ 22 + bit f.valid * 2 ^ 21 + bit f.kernel * 2 ^ 20 + bit f.we * 2 ^ 19 + f.pfn

-- the number of the fields; bits 44 and up are zero
unfoldable pub pack : Entry → ℕ
pack f = join f.vpn15 f.page_id (low_bits f)

-- each field is within its bits
pub record EntryFits (f : Entry) : Type 0 where
  pub vpn15-fits : f.vpn15 < 2 ^ 15
  pub page-id-fits : f.page_id < 2 ^ 6
  pub pfn-fits : f.pfn < 2 ^ 19

-- global, valid, kernel, we and pfn are the same
unfoldable pub same_low : Entry → Entry → Bool
same_low f g =
    beq f.global g.global
    && beq f.valid g.valid
    && beq f.kernel g.kernel
    && beq f.we g.we
    && eqb f.pfn g.pfn

-- all seven fields are the same
unfoldable pub same_entry : Entry → Entry → Bool
same_entry f g = eqb f.vpn15 g.vpn15 && eqb f.page_id g.page_id && same_low f g
