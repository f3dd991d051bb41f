use mathlib.Core.Path.{refl}
use Rattle.control.specs.Setting.{is_guarded}
use Rattle.control.proofs.is_guarded.Goals as goal

pub returns : goal.returns
unfolding is_guarded
returns c = refl
