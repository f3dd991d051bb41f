-- Document 01's thirteen marked examples.
use Rattle.std.specs.Prelude.{ℕ, ◌+◌, ◌*◌, true, false, List, [], ◌∷◌, Some, None}
use Rattle.entry.specs.Address.{slot_of}
use Rattle.registers.specs.Fields.{KSEG, ENABLE, KBASE_HI, CONTEXT, SELECT, TLB_HI, TLB_LO, CAUSE}
use Rattle.registers.specs.declared.Registers.{Registers}
use Rattle.page_table.specs.Walk.{walk_page}
use Rattle.page_table.specs.declared.Walk.TheVariants.{Leaf}
use Rattle.slots.specs.Buffer.{slot_at}
use Rattle.control.specs.Writing.{buffer_after_write}
use Rattle.mmu.specs.RawAccess.{raw_reply}
use Rattle.mmu.specs.ServedAccess.{served_buffer}
use Rattle.examples.specs.Claims.{Example, ◌gives◌}
use Rattle.examples.specs.Scene.{reg, registers_with, enabled, enabled_after, started, user, supervisor, replied}
use Rattle.examples.specs.Scene.{page_low, one_entry, two_entries, page_vpn, page_byte, frame_byte}
use Rattle.examples.specs.Walks.{good}
use Rattle.examples.specs.Served.{machine, reading}

unfoldable pub slots_of : (vpn : ℕ) → List ℕ
slots_of vpn = slot_of 0 vpn ∷ slot_of 1 vpn ∷ slot_of 2 vpn ∷ slot_of 3 vpn ∷ []

-- KSEG 1800, KBASE_HI 0007B000, enabled
unfoldable pub linear : Registers
linear = registers_with (reg KSEG 0x1800 ∷ reg KBASE_HI 0x0007B000 ∷ reg ENABLE 1 ∷ [])

-- TLB_HI with vpn 12345 hex, SELECT 18
unfoldable pub selected : Registers
selected = registers_with (reg ENABLE 1 ∷ reg CONTEXT 5 ∷ reg SELECT 18 ∷ reg TLB_HI (0x12345 * 64 + 5) ∷ [])

unfoldable pub marked : List Example
marked =
    -- 1, 2: the four slots of a vpn
    (slots_of 15 gives 15 ∷ 31 ∷ 47 ∷ 63 ∷ [])
    ∷ (slots_of 16 gives 0 ∷ 16 ∷ 32 ∷ 48 ∷ [])
    -- 3, 4: the empty slots 16 and 63
    ∷ (slot_at started 16 gives 1_065_353_216)
    ∷ (slot_at started 63 gives 2_139_095_040)
    -- 5: an own-tree leaf D0000123 for vpn 1, identification 5, as a served access loads it
    ∷ (walk_page good 5 1 gives Leaf (record { global = false; word = 0xD0000123; index = 1025 }))
    ∷ (slot_at (served_buffer (machine (enabled 5 7) started good) reading) 33 gives 0x02A80123)
    -- 6, 7: linear segments
    ∷ (raw_reply linear started (supervisor false 0xC0001234 0) gives replied (Some 0x70001234) false false 0 linear)
    ∷ (raw_reply linear started (supervisor false 0xB0000010 0) gives replied (Some 0xB0000010) false false 0 linear)
    -- 8: the same address in user mode misses; vpn 60000 hex stands in TLB_HI
    ∷ (raw_reply linear started (user false 0xC0001234 0)
    gives replied None true true 8
    (registers_with (reg KSEG 0x1800 ∷ reg KBASE_HI 0x0007B000 ∷ reg ENABLE 1 ∷ reg TLB_HI (0x60000 * 64) ∷ reg CAUSE 16 ∷ [])))
    -- 9, 10, 11: all enables on, a kernel entry without we, a user's write; not valid; not valid with inv_exc off
    ∷ (raw_reply (enabled 5 7) (one_entry true true false) (user true page_byte 2)
    gives replied None true true 3 (enabled_after 5 7 18 page_vpn 7))
    ∷ (raw_reply (enabled 5 7) (one_entry false true false) (user true page_byte 2)
    gives replied None true true 7 (enabled_after 5 7 18 page_vpn 15))
    ∷ (raw_reply (enabled 5 3) (one_entry false true false) (user true page_byte 2)
    gives replied None true true 8 (enabled_after 5 3 34 page_vpn 17))
    -- 12: two matching valid entries
    ∷ (raw_reply (enabled 5 7) two_entries (user true page_byte 2) gives replied None true true 0 (enabled_after 5 7 0 page_vpn 1))
    -- 13: the entry stored at slot 18 answers for vpn 12342 hex
    ∷ (raw_reply selected (buffer_after_write selected started TLB_LO page_low) (user true page_byte 0)
    gives replied (Some frame_byte) false false 0 selected)
    ∷ []
