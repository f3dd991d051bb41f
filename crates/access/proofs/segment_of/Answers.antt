use native.Mathlib.Omega.{arith}
use mathlib.Core.Path.{refl}
use Rattle.access.specs.Segments.{segment_of}
use Rattle.access.proofs.segment_of.Goals as goal

pub returns : goal.returns
unfolding segment_of
returns c = (refl, omega arith)
