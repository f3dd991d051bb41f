use mathlib.Core.Path.{refl}
use native.Mathlib.Omega.{arith}
use Rattle.mmu_c.proofs.AnswerLaws.{answer_at, answer-fault, answer-done, answer-refused, fault-room, refused-room}
use Rattle.mmu_c.proofs.reply_answer.Goals as goal

pub access_answer-requires-in-Fault : goal.access_answer-requires-in-Fault
access_answer-requires-in-Fault c = (
  omega (arith, fault-room _ c.requires.0 _ c.in-Fault.is),
  c.requires.1,
)

pub refusal_answer-requires : goal.refusal_answer-requires
refusal_answer-requires c = refused-room _ c.requires.0 _ c.in-Refused.is

pub returns-in-At : goal.returns-in-At
returns-in-At c = answer_at _ _ _ c.in-At.is c.access_answer.ensures

pub returns-in-Fault : goal.returns-in-Fault
returns-in-Fault c = answer-fault _ _ _ c.in-Fault.is c.access_answer-in-Fault.ensures

pub returns-in-Done : goal.returns-in-Done
returns-in-Done c = answer-done _ _ _ c.in-Done.is refl

pub returns-in-Refused : goal.returns-in-Refused
returns-in-Refused c = answer-refused _ _ _ c.in-Refused.is c.refusal_answer.ensures
