-- The load of an entry for a page, under the context's identification.
use Rattle.std.specs.Prelude.{ℕ, ◌≡◌, Bool}
use Rattle.runs.specs.Counts.{lowest}
use Rattle.entry.specs.Address.{slot_of}
use Rattle.slots.specs.Buffer.{Buffer, with_slot}
use Rattle.tlb.specs.Hit.{matches_page}
use Rattle.tlb.specs.Search.{fields_at}

-- the entry of a set has the vpn15 and is global or carries the context's page_id, whatever its valid bit
unfoldable pub set_matches : Buffer → (context vpn set : ℕ) → Bool
set_matches b context vpn set = matches_page context vpn (fields_at b vpn set)

-- "among the location's four slots, the lowest that has the vpn15 and is global or carries the context's page_id, whatever its valid
-- bit; else the slot of the draw"
unfoldable pub load_slot : Buffer → (context vpn draw : ℕ) → ℕ
load_slot b context vpn draw = slot_of (lowest (set_matches b context vpn) 4 draw) vpn

-- the entry is stored there
unfoldable pub loaded_buffer : Buffer → (context vpn draw e : ℕ) → Buffer
loaded_buffer b context vpn draw e = with_slot b (load_slot b context vpn draw) e

-- what a load answers and leaves
pub record LoadGives (b after : Buffer) (context vpn draw e slot : ℕ) : Type 0 where
  pub slot_is : slot ≡ load_slot b context vpn draw
  pub buffer-is : after ≡ loaded_buffer b context vpn draw e
