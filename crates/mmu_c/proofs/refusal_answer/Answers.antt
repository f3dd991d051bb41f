use mathlib.Core.Path.{refl}
use Rattle.mmu_c.specs.Answers.{refusal_answer}
use Rattle.mmu_c.proofs.refusal_answer.Goals as goal

pub returns : goal.returns
unfolding refusal_answer
returns c = refl
