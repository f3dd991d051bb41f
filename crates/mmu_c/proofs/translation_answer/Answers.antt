use Rattle.mmu_c.proofs.AnswerLaws.{answer-address, answer-none}
use Rattle.mmu_c.proofs.translation_answer.Goals as goal

pub returns-in-Some : goal.returns-in-Some
returns-in-Some c = answer-address _ _ _ c.in-Some.is c.access_answer.ensures

pub returns-in-None : goal.returns-in-None
returns-in-None c = answer-none _ _ c.in-None.is c.access_answer-in-None.ensures
