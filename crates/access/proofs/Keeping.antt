-- Registers that fit still do after an access. Assumes nothing.
use Prim.Native.Nat.{ℕ, zero, suc, ◌*◌, ◌+◌, ◌<◌}
use mathlib.Core.Path.{◌≡◌}
use mathlib.Core.Bool.{Bool, true, false, cond, ◌||◌}
use native.Mathlib.Omega.{arith}
use lib.Dec.{eqb, lit<}
use borrow.Author.Tests.{lt-ltb}
use Rattle.std.specs.Prelude.{Option, None}
use Rattle.runs.specs.Bits.{bit}
use Rattle.runs.proofs.Bits.{bit_le}
use Rattle.runs.proofs.Counts.{lowest-lt}
use Rattle.entry.specs.Address.{vpn_of, slot_of}
use Rattle.entry.specs.declared.Entry.{Entry}
use Rattle.entry.proofs.Fields.{slot_lt, vpn-lt}
use Rattle.registers.specs.Fields.{put, to_words, field, widths, fits_at, registers_fit, SELECT}
use Rattle.registers.proofs.Fields.{fits-place, put-fits}
use Rattle.registers.specs.declared.Access.{Access}
use Rattle.registers.specs.declared.Registers.{Registers}
use Rattle.slots.specs.Buffer.{Buffer}
use Rattle.tlb.specs.Search.{fields_at, set_hits, hit_count, hit_set}
use Rattle.access.specs.Segments.{in_linear_segment}
use Rattle.access.specs.Exceptions.{inv_exc, exception_value, write_error, access_violation, invalid_page}
use Rattle.access.specs.Translation.{Accepted, is_set, no_exception, with_cause, exception_answer, hit_value, on_hit, by_hit_count, found_set}
use Rattle.access.specs.Translation.{page_mapped, translate}
use Rattle.access.specs.declared.Translation.{Translation}
use Rattle.access.proofs.AccessLaws.{context-lt, draw-lt}

pub selected-lt : (r : Registers) → registers_fit r ≡ true → r.select < 64
unfolding field to_words widths
selected-lt r h = fits-place r 6 h (lit< tt)

-- a slot's number fits SELECT
pub select-fits : (r : Registers) (slot : ℕ) → registers_fit r ≡ true → slot < 64 → registers_fit (put r SELECT slot) ≡ true
unfolding fits_at widths
select-fits r slot h l = put-fits r 6 slot h (lt-ltb slot 64 l)

-- a cause fits with any exception value of four bits
pub cause-fits : (r : Registers) (a : Access) (slot value : ℕ) → registers_fit r ≡ true → slot < 64 → value < 16
    → registers_fit (with_cause r a slot value) ≡ true
unfolding with_cause fits_at widths
cause-fits r a slot value h l v =
    put-fits (put (put r 6 slot) 7 (vpn_of a.address * 64 + r.context)) 10 (value * 2 + bit a.write)
    (put-fits (put r 6 slot) 7 (vpn_of a.address * 64 + r.context) (select-fits r slot h l)
    (lt-ltb (vpn_of a.address * 64 + r.context) 33554432 (omega (arith, vpn-lt a.address, context-lt r h))))
    (lt-ltb (value * 2 + bit a.write) 32 (omega (arith, bit_le a.write)))

-- the exceptions of a hit, added up
pub exception-lt : (ctrl : ℕ) (a : Access) (valid kernel we : Bool) → exception_value ctrl a valid kernel we < 8
unfolding exception_value
exception-lt ctrl a valid kernel we = omega (
  arith,
  bit_le (write_error ctrl a we),
  bit_le (access_violation ctrl a kernel),
  bit_le (invalid_page ctrl valid),
)

pub value-lt : (r : Registers) (a : Access) (f : Entry) → hit_value r a f < 8
unfolding hit_value
value-lt r a f = exception-lt r.ctrl a f.valid f.kernel f.we

-- the registers that an answer leaves fit
abbrev Leaves : Translation → Type 0
Leaves t = registers_fit t.registers ≡ true

either : (t : Bool) (x y : Translation) → Leaves x → Leaves y → Leaves (cond t x y)
either true x y p q = p
either false x y p q = q

module _ (r : Registers) (a : Access) (h : registers_fit r ≡ true) where
  none-leaves : (address : ℕ) → Leaves (no_exception r address)
  unfolding no_exception
  none-leaves address = h

  exception-leaves : (slot value : ℕ) (tested : Option ℕ) → slot < 64 → value < 16 → Leaves (exception_answer r a slot value tested)
  unfolding exception_answer
  exception-leaves slot value tested l v = cause-fits r a slot value h l v

  hit-leaves : (slot : ℕ) (f : Entry) → slot < 64 → Leaves (on_hit r a slot f)
  unfolding on_hit
  hit-leaves slot f l =
      either (eqb (hit_value r a f) 0) _ _ (none-leaves _) (exception-leaves slot (hit_value r a f) _ l (omega (arith, value-lt r a f)))

  count-leaves : (hits set : ℕ) (f : Entry) → a.draw < 4 → set < 4 → Leaves (by_hit_count hits r a set f)
  unfolding by_hit_count
  count-leaves zero set f d l = exception-leaves (slot_of a.draw (vpn_of a.address)) 8 None (slot_lt a.draw _ d) (omega arith)
  count-leaves (suc zero) set f d l = hit-leaves (slot_of set (vpn_of a.address)) f (slot_lt set _ l)
  count-leaves (suc (suc n)) set f d l = exception-leaves r.select 0 None (selected-lt r h) (omega arith)

pub found_lt : (r : Registers) (b : Buffer) (a : Access) → a.draw < 4 → found_set r b a < 4
unfolding found_set hit_set
found_lt r b a l = lowest-lt (set_hits b (inv_exc r.ctrl) r.context (vpn_of a.address)) 4 a.draw l

mapped-leaves : (r : Registers) (b : Buffer) (a : Access) → Accepted r b a → Leaves (page_mapped r b a)
unfolding page_mapped
mapped-leaves r b a p =
    let d = draw-lt a.draw p.draw-fits in
    count-leaves r a p.registers-fit (hit_count b (inv_exc r.ctrl) r.context (vpn_of a.address)) (found_set r b a)
    (fields_at b (vpn_of a.address) (found_set r b a)) d (found_lt r b a d)

pub translate-fits : (r : Registers) (b : Buffer) (a : Access) → Accepted r b a → registers_fit (translate r b a).registers ≡ true
unfolding translate
translate-fits r b a p =
    either (in_linear_segment r.kseg a) _ _ (none-leaves r a p.registers-fit _)
    (either (is_set r.enable || is_set r.test) _ _ (mapped-leaves r b a p) (none-leaves r a p.registers-fit _))
