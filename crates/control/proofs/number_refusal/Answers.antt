use mathlib.Core.Path.{refl}
use Rattle.registers.proofs.RefusalLaws.{refuse-here, refuse-later}
use Rattle.control.specs.Numbers.{number_refusal}
use Rattle.control.proofs.number_refusal.Goals as goal

pub returns-then-not-registers_fit : goal.returns-then-not-registers_fit
unfolding number_refusal
returns-then-not-registers_fit c = refuse-here _ _ _ _ c.registers_fit.ensures c.if-not-registers_fit.true-raw

pub returns-then-not-buffer_fits : goal.returns-then-not-buffer_fits
unfolding number_refusal
returns-then-not-buffer_fits c = refuse-later _ _ _ _ c.registers_fit.ensures _ c.if-not-registers_fit.false-raw
    (refuse-here _ _ _ _ c.buffer_fits.ensures c.if-not-buffer_fits.true-raw)

pub returns-then-not-is_register : goal.returns-then-not-is_register
unfolding number_refusal
returns-then-not-is_register c = refuse-later _ _ _ _ c.registers_fit.ensures _
    c.if-not-registers_fit.false-raw (refuse-later _ _ _ _ c.buffer_fits.ensures _
    c.if-not-buffer_fits.false-raw (refuse-here _ _ _ _ c.is_register.ensures c.if-not-is_register.true-raw))

pub returns : goal.returns
unfolding number_refusal
returns c = refuse-later _ _ _ _ c.registers_fit.ensures _
    c.if-not-registers_fit.false-raw (refuse-later _ _ _ _ c.buffer_fits.ensures _
    c.if-not-buffer_fits.false-raw (refuse-later _ _ _ _ c.is_register.ensures _ c.if-not-is_register.false-raw refl))
