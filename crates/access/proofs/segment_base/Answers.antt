use Rattle.access.proofs.SegmentLaws.{base-low, base-high}
use Rattle.access.proofs.segment_base.Goals as goal

pub returns-then-segment-lt8 : goal.returns-then-segment-lt8
returns-then-segment-lt8 c = base-low _ _ _ c.if-segment-lt8.true

pub returns : goal.returns
returns c = base-high _ _ _ c.if-segment-lt8.false
