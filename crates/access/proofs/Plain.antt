-- An access without an exception gives an address and changes no register. Assumes nothing.
use Prim.Native.Nat.{ℕ, zero, suc}
use mathlib.Core.Path.{◌≡◌, refl, sym, ap, ◌∙◌}
use mathlib.Core.Bool.{Bool, true, false, cond, ◌||◌, true≢false}
use lib.Dec.{eqb}
use Rattle.std.specs.Prelude.{Option}
use Rattle.entry.specs.declared.Entry.{Entry}
use Rattle.registers.specs.declared.Access.{Access}
use Rattle.registers.specs.declared.Registers.{Registers}
use Rattle.slots.specs.Buffer.{Buffer}
use Rattle.access.specs.Segments.{in_linear_segment}
use Rattle.access.specs.Translation.{is_set, no_exception, exception_answer, hit_value, on_hit, by_hit_count, page_mapped, translate}
use Rattle.access.specs.declared.Translation.{Translation}

-- the answer of an address without an exception
pub record Plain (r : Registers) (t : Translation) : Type 0 where
  pub address : ℕ
  pub answer-is : t ≡ no_exception r address

module _ (r : Registers) (a : Access) where
  abbrev Told : Translation → Type 0
  Told t = t.exception ≡ false → Plain r t

  either : (c : Bool) (x y : Translation) → Told x → Told y → Told (cond c x y)
  either true x y p q = p
  either false x y p q = q

  none_told : (address : ℕ) → Told (no_exception r address)
  none_told address h = record { address = address; answer-is = refl }

  exception-told : (slot value : ℕ) (tested : Option ℕ) → Told (exception_answer r a slot value tested)
  unfolding exception_answer
  exception-told slot value tested h = absurd (true≢false h)

  count-told : (hits set : ℕ) (f : Entry) → Told (by_hit_count hits r a set f)
  unfolding by_hit_count on_hit
  count-told zero set f = exception-told _ _ _
  count-told (suc zero) set f = either (eqb (hit_value r a f) 0) _ _ (none_told _) (exception-told _ _ _)
  count-told (suc (suc n)) set f = exception-told _ _ _

translate-told : (r : Registers) (b : Buffer) (a : Access) → (translate r b a).exception ≡ false → Plain r (translate r b a)
unfolding translate page_mapped
translate-told r b a =
    either r a (in_linear_segment r.kseg a) _ _ (none_told r a _)
    (either r a (is_set r.enable || is_set r.test) _ _ (count-told r a _ _ _) (none_told r a _))

pub plain : (r : Registers) (b : Buffer) (a : Access) (t : Translation) → t ≡ translate r b a → t.exception ≡ false → Plain r t
plain r b a t q h =
    let p = translate-told r b a (ap (λ (s : Translation). s.exception) (sym q) ∙ h) in
    record { address = p.address; answer-is = q ∙ p.answer-is }

-- the registers are as they were
pub plain-registers : (r : Registers) (t : Translation) → Plain r t → t.registers ≡ r
unfolding no_exception
plain-registers r t p = ap (λ (s : Translation). s.registers) p.answer-is
