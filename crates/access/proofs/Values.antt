-- The value that a raw access answers is at most 8. Assumes nothing.
use Prim.Native.Nat.{ℕ, zero, suc, ◌≤◌}
use mathlib.Core.Bool.{Bool, true, false, cond, ◌||◌}
use native.Mathlib.Omega.{arith}
use lib.Dec.{eqb}
use Rattle.std.specs.Prelude.{Option}
use Rattle.entry.specs.declared.Entry.{Entry}
use Rattle.registers.specs.declared.Access.{Access}
use Rattle.registers.specs.declared.Registers.{Registers}
use Rattle.slots.specs.Buffer.{Buffer}
use Rattle.access.specs.Segments.{in_linear_segment}
use Rattle.access.specs.Translation.{is_set, no_exception, exception_answer, hit_value, on_hit, by_hit_count, page_mapped, translate}
use Rattle.access.specs.declared.Translation.{Translation}
use Rattle.access.proofs.Keeping.{value-lt}

abbrev Small : Translation → Type 0
Small t = t.value ≤ 8

either : (t : Bool) (x y : Translation) → Small x → Small y → Small (cond t x y)
either true x y p q = p
either false x y p q = q

module _ (r : Registers) (a : Access) where
  none-small : (address : ℕ) → Small (no_exception r address)
  unfolding no_exception
  none-small address = omega arith

  exception-small : (slot value : ℕ) (tested : Option ℕ) → value ≤ 8 → Small (exception_answer r a slot value tested)
  unfolding exception_answer
  exception-small slot value tested l = l

  count_small : (hits set : ℕ) (f : Entry) → Small (by_hit_count hits r a set f)
  unfolding by_hit_count on_hit
  count_small zero set f = exception-small _ 8 _ (omega arith)
  count_small (suc zero) set f =
      either (eqb (hit_value r a f) 0) _ _ (none-small _) (exception-small _ (hit_value r a f) _ (omega (arith, value-lt r a f)))
  count_small (suc (suc n)) set f = exception-small _ 0 _ (omega arith)

pub translate-value-le : (r : Registers) (b : Buffer) (a : Access) → (translate r b a).value ≤ 8
unfolding translate page_mapped
translate-value-le r b a =
    either (in_linear_segment r.kseg a) _ _ (none-small r a _)
    (either (is_set r.enable || is_set r.test) _ _ (count_small r a _ _ _) (none-small r a _))
