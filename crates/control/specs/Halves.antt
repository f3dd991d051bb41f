-- An entry as TLB_HI and TLB_LO have it: TLB_HI a vpn in bits 24 to 6 and a page_id in 5 to 0, TLB_LO the entry's bits 22 to 0.
use Rattle.std.specs.Prelude.{ℕ, ◌+◌, ◌*◌}
use Rattle.runs.specs.Bits.{bits}
use Rattle.entry.specs.Address.{vpn_at}
use Rattle.entry.specs.Entry.{unpack, join}

-- TLB_HI of an entry in a slot: its vpn is put together from its vpn15 and the slot's location
unfoldable pub hi_of : (slot e : ℕ) → ℕ
hi_of slot e = vpn_at slot (unpack e).vpn15 * 64 + (unpack e).page_id

unfoldable pub lo_of : (e : ℕ) → ℕ
lo_of e = bits 22 0 e

-- the entry of the two: from the vpn's upper 15 bits, the page_id and TLB_LO. The vpn's low four bits are not part of it
unfoldable pub entry_from : (hi lo : ℕ) → ℕ
entry_from hi lo = join (bits 24 10 hi) (bits 5 0 hi) lo
