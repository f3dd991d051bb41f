use native.Mathlib.Omega.{arith}
use Rattle.collector.proofs.WordLaws.{valid-from, aged-valid, present-from, aged-old}
use Rattle.collector.proofs.leaves.aged_word.Goals as goal

pub overflow_sub-result : goal.overflow_sub-result
overflow_sub-result c = omega (arith, valid-from _ _ c.is_valid.ensures c.if-is_valid.true, present-from _ c.requires)

pub returns-then-is_valid : goal.returns-then-is_valid
returns-then-is_valid c = aged-valid _ _ c.is_valid.ensures c.if-is_valid.true

pub overflow_sub-result-2 : goal.overflow_sub-result-2
overflow_sub-result-2 c = omega (arith, present-from _ c.requires)

pub returns : goal.returns
returns c = aged-old _ _ c.is_valid.ensures c.if-is_valid.false c.requires
