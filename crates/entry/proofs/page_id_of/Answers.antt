use mathlib.Core.Path.{refl}
use Rattle.entry.specs.Entry.{unpack}
use Rattle.entry.proofs.page_id_of.Goals as goal

pub returns : goal.returns
unfolding unpack
returns c = refl
