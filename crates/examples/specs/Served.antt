-- Served accesses: what each leaves in the registers and in the slot that it loads.
use Rattle.std.specs.Prelude.{ℕ, Bool, true, false, List, [], ◌∷◌, replicate}
use Rattle.entry.specs.Entry.{pack}
use Rattle.entry.specs.Empty.{empty_entry}
use Rattle.registers.specs.Fields.{KSEG, ENABLE, CONTEXT, SELECT, TEST}
use Rattle.registers.specs.Replies.{refused, answered}
use Rattle.registers.specs.declared.Access.{Access}
use Rattle.registers.specs.declared.Outcome.TheVariants.{At, Fault}
use Rattle.registers.specs.declared.Registers.{Registers}
use Rattle.slots.specs.Buffer.{Buffer, slot_at, with_slot}
use Rattle.slots.specs.Buffer.Buffer.{Wide}
use Rattle.store.specs.Machine.{Machine}
use Rattle.mmu.specs.ServedAccess.{served_reply, served_buffer}
use Rattle.examples.specs.Claims.{Example, ◌gives◌}
use Rattle.examples.specs.Scene.{reg, registers_with, enabled, enabled_after, started, user, supervisor, two_entries, page_vpn}
use Rattle.examples.specs.Scene.{page_byte}
use Rattle.examples.specs.Walks.{tables, good, shared, global_broken}

unfoldable pub machine : Registers → Buffer → (words : List ℕ) → Machine
machine r b words = record { registers = r; buffer = b; words = words }

-- page 1's entry under an identification, not valid, writable, frame 7
unfoldable pub aged_entry : (id : ℕ) (global : Bool) → ℕ
aged_entry id global = pack (record { vpn15 = 0; page_id = id; global = global; valid = false; kernel = false; we = true; pfn = 7 })

-- page 1's leaf not valid, writable, frame 123 hex
unfoldable pub aged : List ℕ
aged = tables 2048 0x80000001 0x80000001 0x90000123

-- an access to page 1, whose location is 1, with draw 2
unfoldable pub reading : Access
reading = user false 0x2ABC 2

unfoldable pub served : List Example
served =
    -- miss, load, and a good second try: TLB_HI and the cause hold the first try's miss, SELECT the loaded slot
    (served_reply (machine (enabled 5 7) started good) reading gives answered (enabled_after 5 7 33 1 16) (At 0x00246ABC) 1)
    -- a hit loads nothing, and no register changes
    ∷ (served_reply (machine (enabled 5 7) (served_buffer (machine (enabled 5 7) started good) reading) good) (user true 0x2ABC 0)
    gives answered (enabled 5 7) (At 0x00246ABC) 0)
    -- the second try faults: the cause holds that exception, SELECT the hitting slot
    ∷ (served_reply (machine (enabled 5 7) started aged) reading gives answered (enabled_after 5 7 33 1 8) (Fault 4) 1)
    -- the second try misses: SELECT is the draw's slot, although the entry went where the page was already
    ∷ (served_reply (machine (enabled 5 3) (with_slot started 1 (aged_entry 5 false)) aged) reading
    gives answered (enabled_after 5 3 33 1 16) (Fault 8) 1)
    ∷ (slot_at (served_buffer (machine (enabled 5 3) (with_slot started 1 (aged_entry 5 false)) aged) reading) 1
    gives pack (record { vpn15 = 0; page_id = 5; global = false; valid = false; kernel = false; we = true; pfn = 0x123 }))
    ∷ (slot_at (served_buffer (machine (enabled 5 3) (with_slot started 1 (aged_entry 5 false)) aged) reading) 33 gives empty_entry 2)
    -- a matching global entry is overwritten whoever loaded it, and gets the context's page_id; another identification's own is not
    ∷ (slot_at (served_buffer (machine (enabled 5 3) (with_slot started 49 (aged_entry 9 true)) shared) reading) 49
    gives pack (record { vpn15 = 0; page_id = 5; global = true; valid = true; kernel = false; we = true; pfn = 0x123 }))
    ∷ (slot_at (served_buffer (machine (enabled 5 3) (with_slot started 49 (aged_entry 9 false)) shared) reading) 49 gives aged_entry 9 false)
    -- the lowest matching slot
    ∷ (slot_at
    (served_buffer (machine (enabled 5 3) (with_slot (with_slot started 49 (aged_entry 5 false)) 17 (aged_entry 5 false)) good) reading) 17
    gives 0x02A80123)
    -- absent and broken: as the first try left the registers, and the fault says where the walk stopped
    ∷ (served_reply (machine (enabled 5 7) started good) (user true 0x4000 1) gives answered (enabled_after 5 7 18 2 17) (Fault 0x310) 0)
    ∷ (served_reply (machine (enabled 5 7) started global_broken) reading gives answered (enabled_after 5 7 33 1 16) (Fault 0x1120) 0)
    -- multiple hits: fault value 0 and no load
    ∷ (served_reply (machine (enabled 5 7) two_entries good) (user false page_byte 1)
    gives answered (enabled_after 5 7 0 page_vpn 0) (Fault 0) 0)
    -- enable off is final; so is a linear segment
    ∷ (served_reply (machine (registers_with (reg CONTEXT 5 ∷ [])) started good) reading
    gives answered (registers_with (reg CONTEXT 5 ∷ [])) (At 0x2ABC) 0)
    ∷ (served_reply (machine (registers_with (reg ENABLE 1 ∷ reg KSEG 1 ∷ [])) started good) (supervisor true 0x2ABC 0)
    gives answered (registers_with (reg ENABLE 1 ∷ reg KSEG 1 ∷ [])) (At 0x2ABC) 0)
    -- refused: in the table's order
    ∷ (served_reply (machine (registers_with (reg SELECT 64 ∷ [])) (Wide (replicate 63 0)) (replicate 1023 0)) (user true 0 4)
    gives refused (registers_with (reg SELECT 64 ∷ [])) 1)
    ∷ (served_reply (machine (registers_with (reg TEST 1 ∷ [])) (Wide (replicate 65 0)) (replicate 1023 0)) (user true 0 4)
    gives refused (registers_with (reg TEST 1 ∷ [])) 2)
    ∷ (served_reply (machine (registers_with (reg TEST 1 ∷ [])) started (replicate 1025 0)) (user true 0 4)
    gives refused (registers_with (reg TEST 1 ∷ [])) 3)
    ∷ (served_reply (machine (registers_with (reg TEST 1 ∷ [])) started good) (user true 0 4)
    gives refused (registers_with (reg TEST 1 ∷ [])) 4)
    ∷ (served_reply (machine (registers_with (reg TEST 1 ∷ [])) started good) (user true 0 3)
    gives refused (registers_with (reg TEST 1 ∷ [])) 5)
    ∷ (served_reply (machine (enabled 63 0) started good) (user true 0 3) gives refused (enabled 63 0) 5)
    ∷ (served_buffer (machine (enabled 63 0) (Wide (replicate 64 9)) good) (user true 0 3) gives Wide (replicate 64 9))
    ∷ []
