-- An address is a 19-bit vpn and a 13-bit offset; a vpn is a vpn15 and a location.
use Rattle.std.specs.Prelude.{ℕ, ◌+◌, ◌*◌, ◌/◌, ◌%◌, ◌^◌}
use Rattle.runs.specs.Bits.{bits}

-- how many pages there are, and how many bytes a page has
abbrev pub PAGES : ℕ
PAGES = 2 ^ 19

abbrev pub PAGE : ℕ
PAGE = 2 ^ 13

unfoldable pub vpn_of : (address : ℕ) → ℕ
vpn_of address = bits 31 13 address

unfoldable pub offset_of : (address : ℕ) → ℕ
offset_of address = bits 12 0 address

-- location = vpn mod 16; vpn15 = vpn div 16
unfoldable pub location : (vpn : ℕ) → ℕ
location vpn = vpn % 16

unfoldable pub vpn15_of : (vpn : ℕ) → ℕ
vpn15_of vpn = vpn / 16

-- slot = 16 × set + location
unfoldable pub slot_of : (set vpn : ℕ) → ℕ
slot_of set vpn = 16 * set + location vpn

-- the set of a slot
unfoldable pub set_of : (slot : ℕ) → ℕ
set_of slot = slot / 16

-- the vpn of an entry with this vpn15 in a slot: its location is the slot's
unfoldable pub vpn_at : (slot vpn15 : ℕ) → ℕ
vpn_at slot vpn15 = 16 * vpn15 + slot % 16
