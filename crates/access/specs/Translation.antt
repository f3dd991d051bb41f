-- One raw access, once it is accepted: its four answers and the registers that it leaves.
use Rattle.std.specs.Prelude.{ℕ, zero, suc, ◌+◌, ◌*◌, ◌^◌, ◌≡◌, Bool, true, false, cond, not, ◌&&◌, ◌||◌, eqb, Option, Some, None}
use Rattle.runs.specs.Bits.{bit}
use Rattle.entry.specs.Address.{vpn_of, offset_of, slot_of}
use Rattle.entry.specs.declared.Entry.{Entry}
use Rattle.registers.specs.Fields.{put, registers_fit, SELECT, TLB_HI, CAUSE}
use Rattle.registers.specs.Refusals.{draw_fits}
use Rattle.registers.specs.declared.Access.{Access}
use Rattle.registers.specs.declared.Registers.{Registers}
use Rattle.slots.specs.Buffer.{Buffer, buffer_fits}
use Rattle.tlb.specs.Search.{fields_at, hit_count, hit_set}
use Rattle.access.specs.Segments.{in_linear_segment, linear_address}
use Rattle.access.specs.Exceptions.{inv_exc, exception_value, MISS}
use Rattle.access.specs.declared.Translation.{Translation}

-- what is asked of an access before it is tried
pub record Accepted (r : Registers) (b : Buffer) (a : Access) : Type 0 where
  pub registers-fit : registers_fit r ≡ true
  pub buffer-fits : buffer_fits b ≡ true
  pub draw-fits : draw_fits a.draw ≡ true

-- with no exception the address is pfn × 8,192 + offset
unfoldable pub page_address : (pfn address : ℕ) → ℕ
page_address pfn address = pfn * 2 ^ 13 + offset_of address

-- a register of one bit is on
unfoldable pub is_set : (register : ℕ) → Bool
is_set register = not (eqb register 0)

-- no exception: no register changes
unfoldable pub no_exception : Registers → (address : ℕ) → Translation
no_exception r address = record { physical = Some address; interrupt = false; exception = false; value = 0; registers = r }

-- cause updated: vpn, context page_id, the four exception bits and the write bit; and the selected slot
unfoldable pub with_cause : Registers → Access → (slot value : ℕ) → Registers
with_cause r a slot value =
    put (put (put r SELECT slot) TLB_HI (vpn_of a.address * 64 + r.context)) CAUSE (value * 2 + bit a.write)

-- the table's last column on an exception: with enable off the virtual address; with enable on none, but in test mode what `tested` says
unfoldable pub exception_address : Registers → Access → (tested : Option ℕ) → Option ℕ
exception_address r a tested = cond (is_set r.enable) (cond (is_set r.test) tested None) (Some a.address)

-- the table's third column on an exception: only with enable on and test off
unfoldable pub interrupts : Registers → Bool
interrupts r = is_set r.enable && not (is_set r.test)

unfoldable pub exception_answer : Registers → Access → (slot value : ℕ) (tested : Option ℕ) → Translation
exception_answer r a slot value tested = record {
  physical = exception_address r a tested;
  interrupt = interrupts r;
  exception = true;
  value = value;
  registers = with_cause r a slot value;
}

-- with exactly one hit, of the entry f at a slot: its exceptions, or its address (with enable off the virtual one)
unfoldable pub hit_value : Registers → Access → Entry → ℕ
hit_value r a f = exception_value r.ctrl a f.valid f.kernel f.we

unfoldable pub on_hit : Registers → Access → (slot : ℕ) → Entry → Translation
on_hit r a slot f =
    cond (eqb (hit_value r a f) 0)
    (no_exception r (cond (is_set r.enable) (page_address f.pfn a.address) a.address))
    (exception_answer r a slot (hit_value r a f) (Some (page_address f.pfn a.address)))

-- the selected slot becomes 16 × draw + location on a miss, the hitting slot on other exceptions, and stays on multiple hits (course
-- rule); multiple hits give a bus fault, an exception with all four bits clear
unfoldable pub by_hit_count : (hits : ℕ) → Registers → Access → (set : ℕ) → Entry → Translation
by_hit_count zero r a set f = exception_answer r a (slot_of a.draw (vpn_of a.address)) MISS None
by_hit_count (suc zero) r a set f = on_hit r a (slot_of set (vpn_of a.address)) f
by_hit_count (suc (suc n)) r a set f = exception_answer r a r.select 0 None

-- the buffer decides
unfoldable pub found_set : Registers → Buffer → Access → ℕ
found_set r b a = hit_set b (inv_exc r.ctrl) r.context (vpn_of a.address) a.draw

unfoldable pub page_mapped : Registers → Buffer → Access → Translation
page_mapped r b a =
    by_hit_count (hit_count b (inv_exc r.ctrl) r.context (vpn_of a.address)) r a (found_set r b a)
    (fields_at b (vpn_of a.address) (found_set r b a))

-- 1. A linear segment: no exception. 2. Otherwise the buffer decides. 3. R_MMU_ENABLE off: the address is the virtual one, in either
-- case; with test off too there is no exception
unfoldable pub translate : Registers → Buffer → Access → Translation
translate r b a =
    cond (in_linear_segment r.kseg a)
    (no_exception r (cond (is_set r.enable) (linear_address r.kbase_lo r.kbase_hi a.address) a.address))
    (cond (is_set r.enable || is_set r.test) (page_mapped r b a) (no_exception r a.address))
