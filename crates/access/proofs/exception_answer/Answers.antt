use Rattle.access.proofs.AccessLaws.{answer-is}
use Rattle.access.proofs.exception_answer.Goals as goal

pub returns : goal.returns
returns c = answer-is _ _ _ _ _ _ _ c.exception_address-physical.ensures c.with_cause-registers.ensures
