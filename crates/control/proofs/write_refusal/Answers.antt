use Rattle.std.proofs.Common.{rules, ◌≡◌}
use Rattle.registers.specs.Numbers.{refusal_number, number_of}
use native.Mathlib.Omega.{arith}
use mathlib.Core.Path.{refl, sym, ◌∙◌}
use Rattle.registers.proofs.RefusalLaws.{refuse-here, refuse-later, refused-ne0}
use Rattle.control.specs.Writing.{write_refusal}
use Rattle.control.proofs.NumberLaws.{number_lt, number_passed, number-refused, number-later}
use Rattle.control.proofs.write_refusal.Goals as goal

pub returns-in_err-number_refusal : goal.returns-in_err-number_refusal
unfolding write_refusal
returns-in_err-number_refusal c =
    let same : refusal_number c.from_residual.result ≡ number_of c.in_err-number_refusal.field-0.0 = search rules in
    same ∙ number-refused _ _ _ _ _ c.in_err-number_refusal.ensures (refused-ne0 _)

pub fits_at-requires : goal.fits_at-requires
fits_at-requires c = omega (arith, number_lt (number_passed _ _ _ 0 (sym c.in_ok-number_refusal.ensures)).0)

pub returns-then-not-fits_at : goal.returns-then-not-fits_at
unfolding write_refusal
returns-then-not-fits_at c = number-later _ _ _ _ _ _ c.in_ok-number_refusal.ensures refl
    (refuse-here _ _ _ _ c.fits_at.ensures c.if-not-fits_at.true-raw)

pub returns : goal.returns
unfolding write_refusal
returns c = number-later _ _ _ _ _ _ c.in_ok-number_refusal.ensures refl
    (refuse-later _ _ _ _ c.fits_at.ensures _ c.if-not-fits_at.false-raw refl)
