-- Register reads: TLB_HI and TLB_LO give the entry at SELECT, every other number its own field.
use Rattle.std.specs.Prelude.{◌+◌, ◌*◌, List, [], ◌∷◌, true, false, replicate, None}
use Rattle.registers.specs.Fields.{put, KSEG, CTRL, ENABLE, KBASE_LO, KBASE_HI, CONTEXT, SELECT, TLB_HI, TLB_LO, TEST}
use Rattle.registers.specs.Replies.{refused, done}
use Rattle.registers.specs.declared.Registers.{Registers}
use Rattle.slots.specs.Buffer.{Buffer, slot_at}
use Rattle.slots.specs.Buffer.Buffer.{Wide}
use Rattle.mmu.specs.RawAccess.{raw_reply}
use Rattle.control.specs.Writing.{buffer_after_write}
use Rattle.control.specs.Reading.{read_reply}
use Rattle.control.specs.ReadingBack.{look_at}
use Rattle.examples.specs.Claims.{Example, ◌gives◌}
use Rattle.examples.specs.Scene.{reg, registers_with, enabled, enabled_after, started, ones, user, replied}
use Rattle.examples.specs.Scene.{entry_with, page_low, one_entry, page_vpn, page_byte}
use Rattle.examples.specs.Marked.{selected}
use Rattle.examples.specs.Accesses.{too_wide}
use Rattle.examples.specs.Calls.{short, caused, largest}

-- registers with different values
unfoldable pub distinct : Registers
distinct =
    registers_with
    (reg KSEG 0xFEDC ∷ reg CTRL 5 ∷ reg ENABLE 1 ∷ reg KBASE_LO 0x87654321 ∷ reg KBASE_HI 0x12345678 ∷ reg CONTEXT 9 ∷ reg SELECT 18 ∷ [])

-- every slot with bits 44 and up alone
unfoldable pub upper_bits : Buffer
upper_bits = Wide (replicate 64 0xFFFFF00000000000)

-- the registers that a user's write to the page leaves where it misses with draw 2
unfoldable pub after_missing : Registers
after_missing = enabled_after 5 7 34 page_vpn 17

-- the buffer when the student has then stored the page's entry
unfoldable pub refilled : Buffer
refilled = buffer_after_write after_missing started TLB_LO page_low

unfoldable pub reads : List Example
reads =
    -- the empty slot 63: vpn15 3, location 15, page_id 63, and nothing of the cause, which has vpn 7 and page_id 3; the registers stay
    (read_reply caused started TLB_HI gives done caused (63 * 64 + 63))
    ∷ (read_reply caused started TLB_LO gives done caused 0)
    -- an entry written from the cause's vpn 7 at slot 63 has location 15
    ∷ (read_reply caused (buffer_after_write caused started TLB_LO 0x7fffff) TLB_HI gives done caused (15 * 64 + 3))
    ∷ (read_reply caused (buffer_after_write caused started TLB_LO 0x7fffff) TLB_LO gives done caused 0x7fffff)
    -- not what was last written: the field of TLB_LO holds 7FFFFF, the slot holds 1
    ∷ (read_reply largest (Wide (replicate 64 1)) TLB_LO gives done largest 1)
    -- the 44 bits at their ends; bits 44 and up are ignored
    ∷ (read_reply largest ones TLB_HI gives done largest 0x1FFFFFF)
    ∷ (read_reply largest ones TLB_LO gives done largest 0x7FFFFF)
    ∷ (read_reply largest upper_bits TLB_HI gives done largest (15 * 64))
    ∷ (read_reply largest upper_bits TLB_LO gives done largest 0)
    -- every other number gives its own field
    ∷ (read_reply distinct ones KSEG gives done distinct 0xFEDC)
    ∷ (read_reply distinct ones CTRL gives done distinct 5)
    ∷ (read_reply distinct ones ENABLE gives done distinct 1)
    ∷ (read_reply distinct ones KBASE_LO gives done distinct 0x87654321)
    ∷ (read_reply distinct ones KBASE_HI gives done distinct 0x12345678)
    ∷ (read_reply distinct ones CONTEXT gives done distinct 9)
    ∷ (read_reply distinct ones SELECT gives done distinct 18)
    ∷ (read_reply distinct ones TEST gives done distinct 0)
    ∷ (read_reply largest ones TEST gives done largest 1)
    -- refusals 1, 2 and 7 in this order; 2 for every number
    ∷ (read_reply too_wide short 10 gives refused too_wide 1)
    ∷ (read_reply caused short 10 gives refused caused 2)
    ∷ (read_reply caused short KSEG gives refused caused 2)
    ∷ (read_reply caused started 10 gives refused caused 7)
    -- after an exception the fields tlb_hi and cause hold the page that missed, and a read gives the slot that SELECT names
    ∷ (raw_reply (enabled 5 7) started (user true page_byte 2) gives replied None true true 8 after_missing)
    ∷ (read_reply after_missing started TLB_HI gives done after_missing ((16 * 2 + 2) * 64 + 63))
    -- a write to TLB_LO still uses the cause's vpn and page_id, and is then read
    ∷ (slot_at refilled 34 gives entry_with true false true)
    ∷ (read_reply after_missing refilled TLB_HI gives done after_missing (page_vpn * 64 + 5))
    ∷ (read_reply after_missing refilled TLB_LO gives done after_missing page_low)
    -- looks at slots: an empty one, the page's entry, and marked example 13, written with vpn 12345 hex
    ∷ ((look_at caused started 16).hi-reply gives done (put caused SELECT 16) (16 * 64 + 63))
    ∷ ((look_at caused (one_entry true false true) 18).hi-reply gives done (put caused SELECT 18) (page_vpn * 64 + 5))
    ∷ ((look_at caused (one_entry true false true) 18).lo-reply gives done (put caused SELECT 18) page_low)
    ∷ ((look_at selected (buffer_after_write selected started TLB_LO page_low) 18).hi-reply gives done selected (0x12342 * 64 + 5))
    ∷ []
