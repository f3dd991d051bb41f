use mathlib.Core.Path.{refl}
use Rattle.heap.specs.Map.{mapped_word}
use Rattle.heap.proofs.maps.mapped_word.Goals as goal

pub returns : goal.returns
unfolding mapped_word
returns c = refl
