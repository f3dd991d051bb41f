use mathlib.Core.Path.{refl}
use Rattle.entry.specs.Entry.{unpack}
use Rattle.entry.proofs.is_valid.Goals as goal

pub returns : goal.returns
unfolding unpack
returns c = refl
