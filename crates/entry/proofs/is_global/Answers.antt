use mathlib.Core.Path.{refl}
use Rattle.entry.specs.Entry.{unpack}
use Rattle.entry.proofs.is_global.Goals as goal

pub returns : goal.returns
unfolding unpack
returns c = refl
