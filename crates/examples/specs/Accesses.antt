-- One raw access in each row of the enable/test table, what it selects, and two linear segments.
use Rattle.std.specs.Prelude.{ℕ, ◌+◌, ◌*◌, true, false, List, [], ◌∷◌, replicate, Some, None}
use Rattle.registers.specs.Fields.{put, KSEG, CTRL, ENABLE, KBASE_LO, KBASE_HI, CONTEXT, SELECT, TLB_HI, TEST, CAUSE}
use Rattle.registers.specs.declared.Registers.{Registers}
use Rattle.slots.specs.Buffer.{Buffer}
use Rattle.slots.specs.Buffer.Buffer.{Wide}
use Rattle.mmu.specs.RawAccess.{raw_reply, raw_refused}
use Rattle.examples.specs.Claims.{Example, ◌gives◌}
use Rattle.examples.specs.Scene.{reg, registers_with, started, user, supervisor, replied, one_entry, two_entries}
use Rattle.examples.specs.Scene.{page_vpn, page_byte, frame_byte}

-- enable and test as given, acc_exc on, context 5, SELECT 7, and an old cause
unfoldable pub row : (enable test : ℕ) → Registers
row enable test =
    registers_with (reg ENABLE enable ∷ reg TEST test ∷ reg CTRL 2 ∷ reg CONTEXT 5 ∷ reg SELECT 7 ∷ reg TLB_HI 0x1ffffff ∷ reg CAUSE 31 ∷ [])

-- the same with the cause updated, and another slot selected
unfoldable pub row_after : (enable test select cause : ℕ) → Registers
row_after enable test select cause =
    registers_with
    (reg ENABLE enable ∷ reg TEST test ∷ reg CTRL 2 ∷ reg CONTEXT 5 ∷ reg SELECT select ∷ reg TLB_HI (page_vpn * 64 + 5) ∷ reg CAUSE cause
    ∷ [])

-- a kernel page, and a page without restrictions
unfoldable pub kernel_page : Buffer
kernel_page = one_entry true true true

unfoldable pub open_page : Buffer
open_page = one_entry true false true

unfoldable pub rows : List Example
rows =
    -- a user's read of a kernel page: an access violation, value 2, but in the row where both are off
    (raw_reply (row 0 0) kernel_page (user false page_byte 3) gives replied (Some page_byte) false false 0 (row 0 0))
    ∷ (raw_reply (row 0 1) kernel_page (user false page_byte 3) gives replied (Some page_byte) false true 2 (row_after 0 1 18 4))
    ∷ (raw_reply (row 1 0) kernel_page (user false page_byte 3) gives replied None true true 2 (row_after 1 0 18 4))
    ∷ (raw_reply (row 1 1) kernel_page (user false page_byte 3) gives replied (Some frame_byte) false true 2 (row_after 1 1 18 4))
    -- a page that may be read: no exception, and no register changes
    ∷ (raw_reply (row 0 0) open_page (user false page_byte 3) gives replied (Some page_byte) false false 0 (row 0 0))
    ∷ (raw_reply (row 0 1) open_page (user false page_byte 3) gives replied (Some page_byte) false false 0 (row 0 1))
    ∷ (raw_reply (row 1 0) open_page (user false page_byte 3) gives replied (Some frame_byte) false false 0 (row 1 0))
    ∷ (raw_reply (row 1 1) open_page (user false page_byte 3) gives replied (Some frame_byte) false false 0 (row 1 1))
    -- a write that misses selects 16 × draw + location, here 50, and leaves 8 × 2 + 1 in the cause
    ∷ (raw_reply (row 0 0) started (user true page_byte 3) gives replied (Some page_byte) false false 0 (row 0 0))
    ∷ (raw_reply (row 0 1) started (user true page_byte 3) gives replied (Some page_byte) false true 8 (row_after 0 1 50 17))
    ∷ (raw_reply (row 1 0) started (user true page_byte 3) gives replied None true true 8 (row_after 1 0 50 17))
    ∷ (raw_reply (row 1 1) started (user true page_byte 3) gives replied None false true 8 (row_after 1 1 50 17))
    -- multiple hits: an exception of value 0, and SELECT stays
    ∷ (raw_reply (row 0 0) two_entries (user true page_byte 3) gives replied (Some page_byte) false false 0 (row 0 0))
    ∷ (raw_reply (row 0 1) two_entries (user true page_byte 3) gives replied (Some page_byte) false true 0 (row_after 0 1 7 1))
    ∷ (raw_reply (row 1 0) two_entries (user true page_byte 3) gives replied None true true 0 (row_after 1 0 7 1))
    ∷ (raw_reply (row 1 1) two_entries (user true page_byte 3) gives replied None false true 0 (row_after 1 1 7 1))
    ∷ []

-- segments 3 and 10 are linear; their bases are 5, in KBASE_LO, and 9, in KBASE_HI
unfoldable pub based : (enable test : ℕ) → Registers
based enable test =
    registers_with (reg ENABLE enable ∷ reg TEST test ∷ reg KSEG 0x408 ∷ reg KBASE_LO 0x00005000 ∷ reg KBASE_HI 0x00000900 ∷ [])

unfoldable pub segments : List Example
segments =
    -- all 28 low bits are kept
    (raw_reply (based 1 0) started (supervisor true 0x3FFFFFFF 0) gives replied (Some 0x5FFFFFFF) false false 0 (based 1 0))
    ∷ (raw_reply (based 1 1) started (supervisor true 0xAFFFFFFF 0) gives replied (Some 0x9FFFFFFF) false false 0 (based 1 1))
    -- a segment whose bit is clear: the buffer decides
    ∷ (raw_reply (based 1 0) started (supervisor false 0x40000000 1)
    gives replied None true true 8 (put (put (put (based 1 0) SELECT 16) TLB_HI (0x20000 * 64)) CAUSE 16))
    -- with enable off the address is the virtual one, and test mode raises nothing in a linear segment
    ∷ (raw_reply (based 0 0) started (supervisor true 0x3FFFFFFF 0) gives replied (Some 0x3FFFFFFF) false false 0 (based 0 0))
    ∷ (raw_reply (based 0 1) started (supervisor true 0xAFFFFFFF 0) gives replied (Some 0xAFFFFFFF) false false 0 (based 0 1))
    ∷ []

-- a context that exceeds its bits
unfoldable pub too_wide : Registers
too_wide = registers_with (reg CONTEXT 64 ∷ [])

unfoldable pub refusals : List Example
refusals =
    -- in the order of the table: registers, buffer, draw
    (raw_reply too_wide (Wide (replicate 63 0)) (user false 0 4) gives raw_refused 1 too_wide)
    ∷ (raw_reply (row 1 0) (Wide (replicate 63 0)) (user false 0 4) gives raw_refused 2 (row 1 0))
    ∷ (raw_reply (row 1 0) (Wide (replicate 65 0)) (user false 0 4) gives raw_refused 2 (row 1 0))
    ∷ (raw_reply (row 1 0) started (user false 0 4) gives raw_refused 4 (row 1 0))
    ∷ []
