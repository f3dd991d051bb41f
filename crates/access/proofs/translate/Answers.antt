use Rattle.access.proofs.AccessLaws.{way-linear-off, way-linear, way-off, way-mapped}
use Rattle.access.proofs.translate.Goals as goal

pub returns-then-r-eq0 : goal.returns-then-r-eq0
returns-then-r-eq0 c = way-linear-off _ _ _ _ _ c.in_linear_segment.ensures c.if-in_linear_segment.true
    c.if-r-eq0.true c.no_exception.ensures

pub returns-then-in_linear_segment : goal.returns-then-in_linear_segment
returns-then-in_linear_segment c = way-linear _ _ _ _ _ c.in_linear_segment.ensures _
    c.if-in_linear_segment.true c.if-r-eq0.false c.linear_address-address.ensures
    c.no_exception-then-in_linear_segment.ensures

pub returns-then-r : goal.returns-then-r
returns-then-r c = way-off _ _ _ _ _ c.in_linear_segment.ensures
    c.if-in_linear_segment.false c.if-r.true c.no_exception-then-r.ensures

pub returns : goal.returns
returns c = way-mapped _ _ _ _ _ c.in_linear_segment.ensures
    c.if-in_linear_segment.false c.if-r.false c.page_mapped.ensures
