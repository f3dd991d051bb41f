use mathlib.Core.Path.{refl}
use Rattle.heap.specs.Pools.{frames_fit}
use Rattle.heap.proofs.calls.frames_fit.Goals as goal

pub returns : goal.returns
unfolding frames_fit
returns c = refl
