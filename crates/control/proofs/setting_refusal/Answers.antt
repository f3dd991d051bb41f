use mathlib.Core.Path.{refl}
use Rattle.registers.proofs.RefusalLaws.{refuse-here, refuse-later}
use Rattle.control.specs.Setting.{argument_refusal, setting_refusal}
use Rattle.control.proofs.CallLaws.{guarded-below}
use Rattle.control.proofs.setting_refusal.Goals as goal

pub returns-then-not-registers_fit : goal.returns-then-not-registers_fit
unfolding setting_refusal argument_refusal
returns-then-not-registers_fit c = refuse-here _ _ _ _ c.registers_fit.ensures c.if-not-registers_fit.true-raw

pub returns-then-not-switch_fits : goal.returns-then-not-switch_fits
unfolding setting_refusal argument_refusal
returns-then-not-switch_fits c = refuse-later _ _ _ _ c.registers_fit.ensures _ c.if-not-registers_fit.false-raw
    (refuse-here _ _ _ _ c.switch_fits.ensures c.if-not-switch_fits.true-raw)

pub returns-then-not-is_guarded : goal.returns-then-not-is_guarded
unfolding setting_refusal argument_refusal
returns-then-not-is_guarded c = refuse-later _ _ _ _ c.registers_fit.ensures _
    c.if-not-registers_fit.false-raw
    (refuse-later _ _ _ _ c.switch_fits.ensures _ c.if-not-switch_fits.false-raw
    (refuse-here _ _ _ _ c.is_guarded.ensures c.if-not-is_guarded.true-raw))

pub fits_at-requires : goal.fits_at-requires
fits_at-requires c = guarded-below _ _ c.is_guarded.ensures c.if-not-is_guarded.false-raw

pub returns-then-not-fits_at : goal.returns-then-not-fits_at
unfolding setting_refusal argument_refusal
returns-then-not-fits_at c = refuse-later _ _ _ _ c.registers_fit.ensures _
    c.if-not-registers_fit.false-raw
    (refuse-later _ _ _ _ c.switch_fits.ensures _ c.if-not-switch_fits.false-raw
    (refuse-later _ _ _ _ c.is_guarded.ensures _ c.if-not-is_guarded.false-raw
    (refuse-here _ _ _ _ c.fits_at.ensures c.if-not-fits_at.true-raw)))

pub returns : goal.returns
unfolding setting_refusal argument_refusal
returns c = refuse-later _ _ _ _ c.registers_fit.ensures _
    c.if-not-registers_fit.false-raw
    (refuse-later _ _ _ _ c.switch_fits.ensures _ c.if-not-switch_fits.false-raw
    (refuse-later _ _ _ _ c.is_guarded.ensures _ c.if-not-is_guarded.false-raw
    (refuse-later _ _ _ _ c.fits_at.ensures _ c.if-not-fits_at.false-raw refl)))
