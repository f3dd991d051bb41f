use mathlib.Core.Path.{refl}
use Rattle.control.specs.Numbers.{is_register}
use Rattle.control.proofs.is_register.Goals as goal

pub returns : goal.returns
unfolding is_register
returns c = refl
