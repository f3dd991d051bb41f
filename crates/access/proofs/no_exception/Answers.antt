use mathlib.Core.Path.{refl}
use Rattle.access.specs.Translation.{no_exception}
use Rattle.access.proofs.no_exception.Goals as goal

pub returns : goal.returns
unfolding no_exception
returns c = refl
