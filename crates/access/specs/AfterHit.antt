-- What a raw access takes from the slots of its page's location: the bits of the hit test, and only after a hit the other fields.
use Rattle.std.specs.Prelude.{◌≡◌}
use Rattle.entry.specs.Address.{vpn_of}
use Rattle.registers.specs.declared.Access.{Access}
use Rattle.registers.specs.declared.Registers.{Registers}
use Rattle.slots.specs.Buffer.{Buffer}
use Rattle.tlb.specs.Search.{fields_at, hit_count}
use Rattle.tlb.specs.Alike.{SameHitBits}
use Rattle.access.specs.Exceptions.{inv_exc}
use Rattle.access.specs.Translation.{found_set, translate}
use Rattle.access.specs.declared.Translation.{Translation}

-- where exactly one entry hits, two buffers agree in its fields
unfoldable pub SameEntryHit : Registers → (b c : Buffer) → Access → Type 0
SameEntryHit r b c a =
    hit_count b (inv_exc r.ctrl) r.context (vpn_of a.address) ≡ 1
    → fields_at b (vpn_of a.address) (found_set r b a) ≡ fields_at c (vpn_of a.address) (found_set r b a)

-- "the frame number and the other fields are taken out only after a hit": where two buffers agree in the bits of the hit test and in the
-- entry that hits, if exactly one does, an access answers alike and leaves the same registers, whatever the other bits
abbrev pub TakenAfterHit : Type 0
TakenAfterHit = (r : Registers) (b c : Buffer) (a : Access) → SameHitBits b c (vpn_of a.address) → SameEntryHit r b c a
    → (t t' : Translation) → t ≡ translate r b a → t' ≡ translate r c a → t ≡ t'
