use mathlib.Core.Path.{refl}
use Rattle.access.specs.Exceptions.{acc_exc}
use Rattle.access.proofs.acc_exc.Goals as goal

pub returns : goal.returns
unfolding acc_exc
returns c = refl
