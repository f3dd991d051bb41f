use mathlib.Core.Path.{refl}
use Rattle.access.specs.Exceptions.{inv_exc}
use Rattle.access.proofs.inv_exc.Goals as goal

pub returns : goal.returns
unfolding inv_exc
returns c = refl
