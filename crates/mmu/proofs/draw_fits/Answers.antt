use mathlib.Core.Path.{refl}
use Rattle.registers.specs.Refusals.{draw_fits}
use Rattle.mmu.proofs.draw_fits.Goals as goal

pub returns : goal.returns
unfolding draw_fits
returns c = refl
