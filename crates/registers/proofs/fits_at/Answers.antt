use Rattle.registers.proofs.Fields.{limit-at, limits}
use Rattle.registers.proofs.fits_at.Goals as goal

pub returns : goal.returns
unfolding limits
returns c = limit-at _ _ c.requires
