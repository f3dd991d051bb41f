-- The ways through a raw access: what each gives is what the definitions say. Assumes nothing.
use Prim.Native.Nat.{ℕ, zero, suc, ◌+◌, ◌*◌, ◌%◌, ◌<◌}
use mathlib.Core.Path.{◌≡◌, refl, sym, ◌∙◌}
use mathlib.Core.Bool.{Bool, true, false, not, ◌&&◌, true≢false, not-not}
use native.Mathlib.Omega.{arith}
use lib.Dec.{eqb, lit<}
use borrow.Author.Tests.{eq-eqb, ne_eqb, leb-true}
use mir.Val.{bool_byte}
use Rattle.std.specs.Prelude.{Option, Some, None}
use Rattle.runs.proofs.Bits.{bit_byte, bits-low}
use Rattle.runs.proofs.Bools.{both}
use Rattle.entry.specs.Address.{vpn_of, offset_of, slot_of}
use Rattle.entry.specs.Entry.{unpack}
use Rattle.entry.specs.declared.Entry.{Entry}
use Rattle.registers.specs.Fields.{put, to_words, from_words, field, widths, registers_fit}
use Rattle.registers.specs.Refusals.{draw_fits}
use Rattle.registers.proofs.Fields.{fits-place}
use Rattle.registers.specs.declared.Access.{Access}
use Rattle.registers.specs.declared.Registers.{Registers}
use Rattle.slots.specs.Buffer.{Buffer, slot_at}
use Rattle.tlb.specs.Search.{fields_at, hit_count, Searched}
use Rattle.access.specs.Segments.{in_linear_segment, linear_address}
use Rattle.access.specs.Exceptions.{inv_exc, MISS}
use Rattle.access.specs.Translation.{page_address, is_set, no_exception, with_cause, exception_address, interrupts, exception_answer}
use Rattle.access.specs.Translation.{hit_value, on_hit, by_hit_count, found_set, page_mapped, translate}
use Rattle.access.specs.declared.Translation.{Translation}

pub context-lt : (r : Registers) → registers_fit r ≡ true → r.context < 64
unfolding field to_words widths
context-lt r h = fits-place r 5 h (lit< tt)

pub draw-lt : (draw : ℕ) → draw_fits draw ≡ true → draw < 4
unfolding draw_fits
draw-lt draw h = omega (arith, leb-true draw 3 h)

-- a register that is 0 is off
is-off : (x : ℕ) → x ≡ 0 → is_set x ≡ false
unfolding is_set
is-off x h = rw (eq-eqb x 0 h)

is-on : (x : ℕ) → (x ≡ 0 → ⊥) → is_set x ≡ true
unfolding is_set
is-on x h = rw (ne_eqb x 0 h)

pub cause-is : (r : Registers) (a : Access) (slot value vpn : ℕ) → vpn ≡ vpn_of a.address
    → record {
      kseg = r.kseg;
      ctrl = r.ctrl;
      enable = r.enable;
      kbase_lo = r.kbase_lo;
      kbase_hi = r.kbase_hi;
      context = r.context;
      select = slot;
      tlb_hi = vpn * 64 + r.context;
      tlb_lo = r.tlb_lo;
      test = r.test;
      cause = value * 2 + bool_byte a.write;
    }
    ≡ with_cause r a slot value
unfolding with_cause put to_words from_words
cause-is r a slot value vpn q = rw (q, bit_byte a.write)

module _ (r : Registers) (a : Access) (tested : Option ℕ) where
  pub address-off : r.enable ≡ 0 → Some a.address ≡ exception_address r a tested
  unfolding exception_address
  address-off h = rw (is-off r.enable h)

  pub address-none : (r.enable ≡ 0 → ⊥) → r.test ≡ 0 → None ≡ exception_address r a tested
  unfolding exception_address
  address-none h q = rw (is-on r.enable h, is-off r.test q)

  pub address-tested : (r.enable ≡ 0 → ⊥) → (r.test ≡ 0 → ⊥) → tested ≡ exception_address r a tested
  unfolding exception_address
  address-tested h q = rw (is-on r.enable h, is-on r.test q)

pub answer-is : (r : Registers) (a : Access) (slot value : ℕ) (tested physical : Option ℕ) (after : Registers)
    → physical ≡ exception_address r a tested → after ≡ with_cause r a slot value
    → record {
      physical = physical;
      interrupt = not (eqb r.enable 0) && eqb r.test 0;
      exception = true;
      value = value;
      registers = after;
    }
    ≡ exception_answer r a slot value tested
unfolding exception_answer interrupts is_set
answer-is r a slot value tested physical after p q = λ j. record {
  physical = p j;
  interrupt = not (eqb r.enable 0) && sym (not-not (eqb r.test 0)) j;
  exception = true;
  value = value;
  registers = q j;
}

-- one hit: its exceptions, the virtual address, or its own
pub page-sum : (pfn address : ℕ) → pfn * 8192 + address % 8192 ≡ page_address pfn address
unfolding page_address offset_of
page-sum pfn address = rw (bits-low 12 address)

module _ (r : Registers) (a : Access) (slot : ℕ) (f : Entry) (value : ℕ) (x : Translation) (vq : value ≡ hit_value r a f) where
  pub hit-exception : (address : ℕ) → (value ≡ 0 → ⊥) → address ≡ page_address f.pfn a.address
      → x ≡ exception_answer r a slot value (Some address) → x ≡ on_hit r a slot f
  unfolding on_hit
  hit-exception address z e q = q ∙ rw (e, vq) (sym (rw (ne_eqb (hit_value r a f) 0 (λ y. z (vq ∙ y)))))

  pub hit-off : value ≡ 0 → r.enable ≡ 0 → x ≡ no_exception r a.address → x ≡ on_hit r a slot f
  unfolding on_hit
  hit-off z h q = q ∙ sym (rw (eq-eqb (hit_value r a f) 0 (sym vq ∙ z), is-off r.enable h))

  pub hit-address : (address : ℕ) → value ≡ 0 → (r.enable ≡ 0 → ⊥) → address ≡ page_address f.pfn a.address
      → x ≡ no_exception r address → x ≡ on_hit r a slot f
  unfolding on_hit
  hit-address address z h e q = q ∙ rw e (sym (rw (eq-eqb (hit_value r a f) 0 (sym vq ∙ z), is-on r.enable h)))

-- the buffer's answer by the number of hits
module _ (r : Registers) (b : Buffer) (a : Access) (inv : Bool) (vpn hits set : ℕ) (x : Translation) (iq : inv ≡ inv_exc r.ctrl)
    (vq : vpn ≡ vpn_of a.address) (found : Searched b inv r.context vpn a.draw hits set) where
  count-is : hits ≡ hit_count b (inv_exc r.ctrl) r.context (vpn_of a.address)
  count-is = rw (← iq, ← vq) found.count-is

  set_is : set ≡ found_set r b a
  unfolding found_set
  set_is = rw (← iq, ← vq) found.set_is

  pub mapped-miss : (slot : ℕ) → hits ≡ 0 → slot ≡ slot_of a.draw vpn → x ≡ exception_answer r a slot MISS None → x ≡ page_mapped r b a
  unfolding page_mapped by_hit_count
  mapped-miss slot z e q = q ∙ rw (e, vq) (sym (rw (sym count-is ∙ z)))

  pub mapped-hit : (slot e : ℕ) (f : Entry) → hits ≡ 1 → slot ≡ slot_of set vpn → e ≡ slot_at b slot → f ≡ unpack e → x ≡ on_hit r a slot f
      → x ≡ page_mapped r b a
  unfolding page_mapped by_hit_count fields_at
  mapped-hit slot e f z p k u q = q ∙ rw (u, k, p, set_is, vq) (sym (rw (sym count-is ∙ z)))

  pub mapped-many : (hits ≡ 0 → ⊥) → (hits ≡ 1 → ⊥) → x ≡ exception_answer r a r.select 0 None → x ≡ page_mapped r b a
  unfolding page_mapped by_hit_count
  mapped-many z o q =
      q
      ∙ many
      (hit_count b (inv_exc r.ctrl) r.context (vpn_of a.address))
      (λ y. z (count-is ∙ y))
      (λ y. o (count-is ∙ y))
    where
      many : (n : ℕ) → (n ≡ 0 → ⊥) → (n ≡ 1 → ⊥)
          → exception_answer r a r.select 0 None ≡ by_hit_count n r a (found_set r b a) (fields_at b (vpn_of a.address) (found_set r b a))
      many zero y w = absurd (y refl)
      many (suc zero) y w = absurd (w refl)
      many (suc (suc n)) y w = refl

-- the three steps
module _ (r : Registers) (b : Buffer) (a : Access) (x : Translation) (t : Bool) (tq : t ≡ in_linear_segment r.kseg a) where
  pub way-linear-off : t ≡ true → r.enable ≡ 0 → x ≡ no_exception r a.address → x ≡ translate r b a
  unfolding translate
  way-linear-off h e q = q ∙ sym (rw (sym tq ∙ h, is-off r.enable e))

  pub way-linear : (address : ℕ) → t ≡ true → (r.enable ≡ 0 → ⊥) → address ≡ linear_address r.kbase_lo r.kbase_hi a.address
      → x ≡ no_exception r address
      → x ≡ translate r b a
  unfolding translate
  way-linear address h e p q = q ∙ rw p (sym (rw (sym tq ∙ h, is-on r.enable e)))

  pub way-off : t ≡ false → eqb r.enable 0 && eqb r.test 0 ≡ true → x ≡ no_exception r a.address → x ≡ translate r b a
  unfolding translate is_set
  way-off h o q =
      let off = both (eqb r.enable 0) (eqb r.test 0) o in
      q ∙ sym (rw (sym tq ∙ h, off.0, off.1))

  pub way-mapped : t ≡ false → eqb r.enable 0 && eqb r.test 0 ≡ false → x ≡ page_mapped r b a → x ≡ translate r b a
  unfolding translate is_set
  way-mapped h o q = q ∙ go (eqb r.enable 0) (eqb r.test 0) refl refl o
    where
      go : (e k : Bool) → eqb r.enable 0 ≡ e → eqb r.test 0 ≡ k → e && k ≡ false → page_mapped r b a ≡ translate r b a
      go true true p l n = absurd (true≢false n)
      go true false p l n = sym (rw (sym tq ∙ h, p, l))
      go false k p l n = sym (rw (sym tq ∙ h, p))
