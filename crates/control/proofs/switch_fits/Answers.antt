use mathlib.Core.Path.{refl}
use Rattle.control.specs.Setting.{switch_fits}
use Rattle.control.proofs.switch_fits.Goals as goal

pub returns : goal.returns
unfolding switch_fits
returns c = refl
