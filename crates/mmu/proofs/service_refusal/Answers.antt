use mathlib.Core.Path.{refl}
use Rattle.registers.proofs.RefusalLaws.{refuse-here, refuse-later}
use Rattle.mmu.proofs.service_refusal.Goals as goal

pub returns-then-not-draw_fits : goal.returns-then-not-draw_fits
returns-then-not-draw_fits c = refuse-here _ _ _ _ c.draw_fits.ensures c.if-not-draw_fits.true-raw

pub returns-then-not-may_be_served : goal.returns-then-not-may_be_served
returns-then-not-may_be_served c = refuse-later _ _ _ _ c.draw_fits.ensures _ c.if-not-draw_fits.false-raw
    (refuse-here _ _ _ _ c.may_be_served.ensures c.if-not-may_be_served.true-raw)

pub returns : goal.returns
returns c = refuse-later _ _ _ _ c.draw_fits.ensures _ c.if-not-draw_fits.false-raw
    (refuse-later _ _ _ _ c.may_be_served.ensures _ c.if-not-may_be_served.false-raw refl)
