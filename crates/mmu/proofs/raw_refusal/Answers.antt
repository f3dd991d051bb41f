use mathlib.Core.Path.{refl}
use Rattle.registers.proofs.RefusalLaws.{refuse-here, refuse-later}
use Rattle.mmu.specs.RawAccess.{raw_refusal}
use Rattle.mmu.proofs.raw_refusal.Goals as goal

pub returns-then-not-registers_fit : goal.returns-then-not-registers_fit
unfolding raw_refusal
returns-then-not-registers_fit c = refuse-here _ _ _ _ c.registers_fit.ensures c.if-not-registers_fit.true-raw

pub returns-then-not-buffer_fits : goal.returns-then-not-buffer_fits
unfolding raw_refusal
returns-then-not-buffer_fits c = refuse-later _ _ _ _ c.registers_fit.ensures _ c.if-not-registers_fit.false-raw
    (refuse-here _ _ _ _ c.buffer_fits.ensures c.if-not-buffer_fits.true-raw)

pub returns-then-not-draw_fits : goal.returns-then-not-draw_fits
unfolding raw_refusal
returns-then-not-draw_fits c = refuse-later _ _ _ _ c.registers_fit.ensures _
    c.if-not-registers_fit.false-raw (refuse-later _ _ _ _ c.buffer_fits.ensures _
    c.if-not-buffer_fits.false-raw (refuse-here _ _ _ _ c.draw_fits.ensures c.if-not-draw_fits.true-raw))

pub returns : goal.returns
unfolding raw_refusal
returns c = refuse-later _ _ _ _ c.registers_fit.ensures _
    c.if-not-registers_fit.false-raw (refuse-later _ _ _ _ c.buffer_fits.ensures _
    c.if-not-buffer_fits.false-raw (refuse-later _ _ _ _ c.draw_fits.ensures _ c.if-not-draw_fits.false-raw refl))
