-- The conditions of an exception and of a hit: the case beside each that differs in it alone.
use Rattle.std.specs.Prelude.{◌+◌, ◌*◌, true, false, List, [], ◌∷◌, set, replicate, Some, None}
use Rattle.entry.specs.Entry.{pack}
use Rattle.slots.specs.Buffer.{Buffer, slot_at, with_slot}
use Rattle.slots.specs.Buffer.Buffer.{Wide}
use Rattle.mmu.specs.RawAccess.{raw_reply}
use Rattle.examples.specs.Claims.{Example, ◌gives◌}
use Rattle.examples.specs.Scene.{enabled, enabled_after, started, user, supervisor, replied, entry_with, one_entry}
use Rattle.examples.specs.Scene.{page_vpn, page_byte, frame_byte}

unfoldable pub exceptions : List Example
exceptions =
    -- write error: a write, without we, with we_exc on; each of the three is missing once
    (raw_reply (enabled 5 7) (one_entry true false false) (user true page_byte 0)
    gives replied None true true 1 (enabled_after 5 7 18 page_vpn 3))
    ∷ (raw_reply (enabled 5 7) (one_entry true false false) (user false page_byte 0)
    gives replied (Some frame_byte) false false 0 (enabled 5 7))
    ∷ (raw_reply (enabled 5 7) (one_entry true false true) (user true page_byte 0)
    gives replied (Some frame_byte) false false 0 (enabled 5 7))
    ∷ (raw_reply (enabled 5 6) (one_entry true false false) (user true page_byte 0)
    gives replied (Some frame_byte) false false 0 (enabled 5 6))
    -- we_exc alone is on: a kernel page raises the write error alone
    ∷ (raw_reply (enabled 5 1) (one_entry true true false) (user true page_byte 0)
    gives replied None true true 1 (enabled_after 5 1 18 page_vpn 3))
    -- access violation: not in supervisor mode, not with acc_exc off
    ∷ (raw_reply (enabled 5 7) (one_entry true true true) (user true page_byte 0)
    gives replied None true true 2 (enabled_after 5 7 18 page_vpn 5))
    ∷ (raw_reply (enabled 5 7) (one_entry true true true) (supervisor true page_byte 0)
    gives replied (Some frame_byte) false false 0 (enabled 5 7))
    ∷ (raw_reply (enabled 5 5) (one_entry true true true) (user true page_byte 0)
    gives replied (Some frame_byte) false false 0 (enabled 5 5))
    -- invalid page alone
    ∷ (raw_reply (enabled 5 4) (one_entry false true false) (user true page_byte 0)
    gives replied None true true 4 (enabled_after 5 4 18 page_vpn 9))
    ∷ []

-- the page's entry, global, of a kernel page
unfoldable pub global_entry : Buffer
global_entry =
    with_slot started 18
    (pack (record { vpn15 = 0x1234; page_id = 5; global = true; valid = true; kernel = true; we = true; pfn = 0x77 }))

-- the page's entry with bits 44 and up set, over numbers that are 0
unfoldable pub high_bits : Buffer
high_bits = Wide (set (replicate 64 0) 18 (0xABCDE00000000000 + entry_with true false true))

unfoldable pub hits : List Example
hits =
    -- another page_id misses, but a global entry hits, and the cause names the context
    (raw_reply (enabled 6 7) (one_entry true true true) (user false page_byte 0)
    gives replied None true true 8 (enabled_after 6 7 2 page_vpn 16))
    ∷ (raw_reply (enabled 6 7) global_entry (user false page_byte 0) gives replied None true true 2 (enabled_after 6 7 18 page_vpn 4))
    -- another vpn15 misses, and so does another location
    ∷ (raw_reply (enabled 5 7) global_entry (user false (0x12352 * 8192) 0) gives replied None true true 8 (enabled_after 5 7 2 0x12352 16))
    ∷ (raw_reply (enabled 5 7) global_entry (user false (0x12343 * 8192) 0) gives replied None true true 8 (enabled_after 5 7 3 0x12343 16))
    -- an empty slot hits only under identification 63 and with inv_exc on, and alone
    ∷ (raw_reply (enabled 63 4) started (user false (18 * 8192) 0) gives replied None true true 4 (enabled_after 63 4 18 18 8))
    ∷ (raw_reply (enabled 63 3) started (user false (18 * 8192) 0) gives replied None true true 8 (enabled_after 63 3 2 18 16))
    ∷ (raw_reply (enabled 0 4) started (user false (18 * 8192) 0) gives replied None true true 8 (enabled_after 0 4 2 18 16))
    -- bits 44 and up are ignored on reading and written as zero; no other slot is touched
    ∷ (raw_reply (enabled 5 7) high_bits (user true page_byte 0) gives replied (Some frame_byte) false false 0 (enabled 5 7))
    ∷ (slot_at high_bits 18 gives entry_with true false true)
    ∷ (with_slot (Wide (1 ∷ 2 ∷ [])) 1 0x100000000007 gives Wide (1 ∷ 7 ∷ []))
    ∷ []
