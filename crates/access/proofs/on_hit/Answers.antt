use Rattle.access.proofs.AccessLaws.{hit-exception, hit-off, hit-address, page-sum}
use Rattle.access.specs.Translation.{hit_value}
use Rattle.access.proofs.on_hit.Goals as goal

pub returns-then-value-ne0 : goal.returns-then-value-ne0
unfolding hit_value
returns-then-value-ne0 c = hit-exception _ _ _ _ _ _ c.exception_value-value.ensures.0 _ c.if-value-ne0.true
    (page-sum _ _) c.exception_answer.ensures

pub returns-then-r-eq0 : goal.returns-then-r-eq0
unfolding hit_value
returns-then-r-eq0 c = hit-off _ _ _ _ _ _ c.exception_value-value.ensures.0
    c.if-value-ne0.false c.if-r-eq0.true c.no_exception.ensures

pub returns : goal.returns
unfolding hit_value
returns c = hit-address _ _ _ _ _ _ c.exception_value-value.ensures.0 _
    c.if-value-ne0.false c.if-r-eq0.false (page-sum _ _) c.no_exception-2.ensures
