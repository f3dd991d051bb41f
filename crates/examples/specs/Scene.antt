-- The registers, buffers, accesses and answers that the examples are written with.
use Rattle.std.specs.Prelude.{ℕ, ◌+◌, ◌*◌, Bool, true, false, List, [], ◌∷◌, replicate, Option, Ok}
use Rattle.entry.specs.Entry.{pack}
use Rattle.registers.specs.Fields.{put, zero_registers, CTRL, ENABLE, CONTEXT, SELECT, TLB_HI, CAUSE}
use Rattle.registers.specs.declared.Access.{Access}
use Rattle.registers.specs.declared.Registers.{Registers}
use Rattle.slots.specs.Buffer.{Buffer, with_slot}
use Rattle.slots.specs.Buffer.Buffer.{Wide}
use Rattle.slots.specs.Start.{start_buffer}
use Rattle.mmu.specs.RawAccess.{RawReply}

-- a field's place and its value
pub data Field : Type 0 where
  reg : (place value : ℕ) → Field

-- registers that are 0 but for some
unfoldable pub registers_with : List Field → Registers
registers_with [] = zero_registers
registers_with (reg place value ∷ rest) = put (registers_with rest) place value

-- enabled, with a context and CTRL
unfoldable pub enabled : (context ctrl : ℕ) → Registers
enabled context ctrl = registers_with (reg ENABLE 1 ∷ reg CONTEXT context ∷ reg CTRL ctrl ∷ [])

-- the same after an exception
unfoldable pub enabled_after : (context ctrl select vpn cause : ℕ) → Registers
enabled_after context ctrl select vpn cause =
    registers_with
    (reg ENABLE 1 ∷ reg CONTEXT context ∷ reg CTRL ctrl ∷ reg SELECT select ∷ reg TLB_HI (vpn * 64 + context) ∷ reg CAUSE cause ∷ [])

-- a buffer just started, over numbers that were not 0
unfoldable pub started : Buffer
started = start_buffer (Wide (replicate 64 0x123456789abcdef0))

-- every slot with all 64 bits set
unfoldable pub ones : Buffer
ones = Wide (replicate 64 0xFFFFFFFFFFFFFFFF)

-- an access to an address
unfoldable pub user : (write : Bool) (address draw : ℕ) → Access
user write address draw = record { address = address; user = true; write = write; draw = draw }

unfoldable pub supervisor : (write : Bool) (address draw : ℕ) → Access
supervisor write address draw = record { address = address; user = false; write = write; draw = draw }

-- a reply that is no refusal
unfoldable pub replied : (physical : Option ℕ) (interrupt exception : Bool) (value : ℕ) (after : Registers) → RawReply
replied physical interrupt exception value after =
    Ok (record { physical = physical; interrupt = interrupt; exception = exception; value = value; registers = after })

-- the entry of vpn 0x12342 under page_id 5, whose location is 2: valid, kernel, we as given, pfn 0x77
unfoldable pub entry_with : (valid kernel we : Bool) → ℕ
entry_with valid kernel we =
    pack (record { vpn15 = 0x1234; page_id = 5; global = false; valid = valid; kernel = kernel; we = we; pfn = 0x77 })

-- its low 23 bits where it is valid with we, and no kernel page
abbrev pub page_low : ℕ
page_low = 0x00280077

-- it stands in set 1, slot 18; and a second one in set 3, slot 50
unfoldable pub one_entry : (valid kernel we : Bool) → Buffer
one_entry valid kernel we = with_slot started 18 (entry_with valid kernel we)

unfoldable pub two_entries : Buffer
two_entries = with_slot (one_entry true false true) 50 (entry_with true false true)

-- that page's vpn, and an address of it, with the offset 0x1abc
abbrev pub page_vpn : ℕ
page_vpn = 0x12342

abbrev pub page_byte : ℕ
page_byte = page_vpn * 8192 + 0x1abc

-- what it becomes
abbrev pub frame_byte : ℕ
frame_byte = 0x77 * 8192 + 0x1abc
