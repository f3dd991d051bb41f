use mathlib.Core.Path.{ap, ◌∙◌}
use Rattle.access.proofs.SegmentLaws.{linear-sum}
use Rattle.access.specs.Segments.{segment_base}
use Rattle.access.proofs.linear_address.Goals as goal

pub returns : goal.returns
returns c = linear-sum _ _ _ _ (c.segment_base-base.ensures.0 ∙ ap (segment_base _ _) c.segment_of-segment.ensures.0)
