use Rattle.access.specs.Segments.{in_linear_segment}
use Rattle.access.proofs.in_linear_segment.Goals as goal

pub returns : goal.returns
unfolding in_linear_segment
returns c = rw c.segment_of-segment.ensures.0
