-- The search: only the four slots of the location are looked at.
use Rattle.std.specs.Prelude.{ℕ, ◌≡◌, Bool}
use Rattle.runs.specs.Counts.{count, lowest}
use Rattle.entry.specs.Address.{slot_of}
use Rattle.entry.specs.Entry.{unpack}
use Rattle.entry.specs.declared.Entry.{Entry}
use Rattle.slots.specs.Buffer.{Buffer, slot_at}
use Rattle.tlb.specs.Hit.{hit}

-- the fields at the slot of a set for a page
unfoldable pub fields_at : Buffer → (vpn set : ℕ) → Entry
fields_at b vpn set = unpack (slot_at b (slot_of set vpn))

-- the entry of a set hits
unfoldable pub set_hits : Buffer → (inv-exc : Bool) (context vpn set : ℕ) → Bool
set_hits b inv-exc context vpn set = hit inv-exc context vpn (fields_at b vpn set)

-- how many of the four hit
unfoldable pub hit_count : Buffer → (inv-exc : Bool) (context vpn : ℕ) → ℕ
hit_count b inv-exc context vpn = count (set_hits b inv-exc context vpn) 4

-- the lowest set that hits, or `otherwise` where none does
unfoldable pub hit_set : Buffer → (inv-exc : Bool) (context vpn otherwise : ℕ) → ℕ
hit_set b inv-exc context vpn otherwise = lowest (set_hits b inv-exc context vpn) 4 otherwise

-- what a search answers
pub record Searched (b : Buffer) (inv-exc : Bool) (context vpn otherwise count set : ℕ) : Type 0 where
  pub count-is : count ≡ hit_count b inv-exc context vpn
  pub set_is : set ≡ hit_set b inv-exc context vpn otherwise
