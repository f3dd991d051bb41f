use mathlib.Core.Bool.{not}
use mathlib.Core.Path.{refl, ap}
use borrow.Author.Tests.{lt-leb, le-leb}
use Rattle.registers.specs.Refusals.{draw_fits}
use Rattle.registers.proofs.RefusalLaws.{refuse-here, refuse-later}
use Rattle.mmu_c.proofs.raw_access.raw_refusal.Goals as goal

pub returns-then-not-registers_fit : goal.returns-then-not-registers_fit
returns-then-not-registers_fit c = refuse-here _ _ _ _ c.registers_fit.ensures (ap not c.if-not-registers_fit.true)

pub returns-then-not-buffer_taken : goal.returns-then-not-buffer_taken
returns-then-not-buffer_taken c = refuse-later _ _ _ _ c.registers_fit.ensures _ (ap not c.if-not-registers_fit.false)
    (refuse-here _ _ _ _ c.buffer_taken.ensures (ap not c.if-not-buffer_taken.true))

pub returns-then-not-draw_fits : goal.returns-then-not-draw_fits
unfolding draw_fits
returns-then-not-draw_fits c = refuse-later _ _ _ _ c.registers_fit.ensures _
    (ap not c.if-not-registers_fit.false)
    (refuse-later _ _ _ _ c.buffer_taken.ensures _ (ap not c.if-not-buffer_taken.false) (refuse-here _ _ _ _ refl
    (ap not (lt-leb _ _ c.if-not-draw_fits.true))))

pub returns : goal.returns
unfolding draw_fits
returns c = refuse-later _ _ _ _ c.registers_fit.ensures _
    (ap not c.if-not-registers_fit.false)
    (refuse-later _ _ _ _ c.buffer_taken.ensures _ (ap not c.if-not-buffer_taken.false)
    (refuse-later _ _ _ _ refl _ (ap not (le-leb _ _ c.if-not-draw_fits.false)) refl))
