-- Starts and register writes, and the bits of each field.
use Rattle.std.specs.Prelude.{◌+◌, ◌*◌, List, [], ◌∷◌, true, false, set, replicate, None}
use Rattle.registers.specs.Fields.{put, registers_fit, zero_registers, KSEG, CTRL, ENABLE, KBASE_LO, KBASE_HI, CONTEXT, SELECT, TLB_HI}
use Rattle.registers.specs.Fields.{TLB_LO, TEST, CAUSE}
use Rattle.registers.specs.Replies.{refused, done}
use Rattle.registers.specs.declared.Registers.{Registers}
use Rattle.slots.specs.Buffer.{Buffer, slot_at}
use Rattle.slots.specs.Buffer.Buffer.{Wide}
use Rattle.mmu.specs.RawAccess.{raw_reply}
use Rattle.control.specs.Starting.{start_reply, started_buffer}
use Rattle.control.specs.Writing.{write_reply, buffer_after_write}
use Rattle.examples.specs.Claims.{Example, ◌gives◌}
use Rattle.examples.specs.Scene.{reg, registers_with, enabled_after, started, ones, user, replied, page_low}
use Rattle.examples.specs.Marked.{selected}
use Rattle.examples.specs.Accesses.{too_wide}

-- a buffer that is one slot short
unfoldable pub short : Buffer
short = Wide (replicate 63 1)

-- a cause that an exception left: vpn 7, page_id 3, value 8, write
unfoldable pub caused : Registers
caused = registers_with (reg TLB_HI (7 * 64 + 3) ∷ reg CAUSE 17 ∷ reg SELECT 63 ∷ [])

unfoldable pub calls : List Example
calls =
    -- a refused start returns registers all 0 and alters nothing
    (start_reply short gives refused zero_registers 2)
    ∷ (started_buffer short gives short)
    ∷ (start_reply started gives done zero_registers 0)
    -- a write to TLB_HI leaves the exception and write bits, and the buffer
    ∷ (write_reply caused started TLB_HI 0x1ffffff gives done (registers_with (reg TLB_HI 0x1ffffff ∷ reg CAUSE 17 ∷ reg SELECT 63 ∷ [])) 0)
    ∷ (buffer_after_write caused started TLB_HI 0x1ffffff gives started)
    -- a write to TLB_LO stores at SELECT from the cause's vpn and page_id, and keeps the written value
    ∷ (slot_at (buffer_after_write caused started TLB_LO 0x7fffff) 63 gives 3 * 8388608 + 0x7fffff)
    ∷ (write_reply caused started TLB_LO 0x7fffff
    gives done (registers_with (reg TLB_HI (7 * 64 + 3) ∷ reg TLB_LO 0x7fffff ∷ reg CAUSE 17 ∷ reg SELECT 63 ∷ [])) 0)
    -- context 63 may be written, and 64 is too large; there is no register 10
    ∷ (write_reply caused started CONTEXT 63
    gives done (registers_with (reg CONTEXT 63 ∷ reg TLB_HI (7 * 64 + 3) ∷ reg CAUSE 17 ∷ reg SELECT 63 ∷ [])) 0)
    ∷ (write_reply caused started CONTEXT 64 gives refused caused 7)
    ∷ (write_reply caused started 10 0 gives refused caused 7)
    ∷ (write_reply caused short 10 0 gives refused caused 2)
    -- registers are judged first
    ∷ (write_reply too_wide short 10 0 gives refused too_wide 1)
    -- a refused write touches no slot, and an accepted one touches no other, whatever stood above bit 43
    ∷ (write_reply caused started TLB_LO 0x800000 gives refused caused 7)
    ∷ (buffer_after_write caused started TLB_LO 0x800000 gives started)
    ∷ (buffer_after_write caused ones TLB_LO 0x7fffff
    gives Wide (set (replicate 64 0xFFFFFFFFFFFFFFFF) 63 (3 * 8388608 + 0x7fffff)))
    -- the entry of marked example 13 does not answer for the vpn that stood in TLB_HI
    ∷ (raw_reply selected (buffer_after_write selected started TLB_LO page_low) (user true (0x12345 * 8192) 0)
    gives replied None true true 8 (enabled_after 5 0 5 0x12345 17))
    ∷ []

-- every field at its largest value
unfoldable pub largest : Registers
largest =
    registers_with
    (reg KSEG 0xFFFF ∷ reg CTRL 7 ∷ reg ENABLE 1 ∷ reg KBASE_LO 0xFFFFFFFF ∷ reg KBASE_HI 0xFFFFFFFF ∷ reg CONTEXT 63 ∷ reg SELECT 63
    ∷ reg TLB_HI 0x1FFFFFF ∷ reg TLB_LO 0x7FFFFF ∷ reg TEST 1 ∷ reg CAUSE 31 ∷ [])

unfoldable pub fields : List Example
fields =
    -- number 1: each field one past its bits
    (registers_fit largest gives true)
    ∷ (registers_fit (put largest KSEG 0x10000) gives false)
    ∷ (registers_fit (put largest CTRL 8) gives false)
    ∷ (registers_fit (put largest ENABLE 2) gives false)
    ∷ (registers_fit (put largest CONTEXT 64) gives false)
    ∷ (registers_fit (put largest SELECT 64) gives false)
    ∷ (registers_fit (put largest TLB_HI 0x2000000) gives false)
    ∷ (registers_fit (put largest TLB_LO 0x800000) gives false)
    ∷ (registers_fit (put largest TEST 2) gives false)
    ∷ (registers_fit (put largest CAUSE 32) gives false)
    ∷ []
