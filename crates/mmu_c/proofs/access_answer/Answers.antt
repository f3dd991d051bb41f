use mathlib.Core.Path.{◌∙◌}
use Rattle.runs.proofs.Bits.{bit_byte}
use Rattle.mmu_c.proofs.AnswerLaws.{answer-sum}
use Rattle.mmu_c.proofs.access_answer.Goals as goal

pub returns : goal.returns
returns c = answer-sum _ _ _ _ _ _ _ _ _ (c.from.ensures ∙ bit_byte _) (c.from-2.ensures ∙ bit_byte _) (c.from-3.ensures ∙ bit_byte _)
