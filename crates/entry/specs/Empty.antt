-- The empty slot: vpn15 is its set's number, page_id 63, all else 0.
use Rattle.std.specs.Prelude.{ℕ, false}
use Rattle.entry.specs.Entry.{pack}
use Rattle.entry.specs.declared.Entry.{Entry}

unfoldable pub empty_fields : (set : ℕ) → Entry
empty_fields set = record { vpn15 = set; page_id = 63; global = false; valid = false; kernel = false; we = false; pfn = 0 }

-- what an empty slot of a set holds
unfoldable pub empty_entry : (set : ℕ) → ℕ
empty_entry set = pack (empty_fields set)
