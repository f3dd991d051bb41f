use mathlib.Core.Path.{refl}
use native.Mathlib.Omega.{arith}
use Rattle.collector.proofs.TurnLaws.{rewrite-le, turn-valid, turn-old}
use Rattle.collector.proofs.aging.age_leaf.Goals as goal

pub overflow_add-emptied : goal.overflow_add-emptied
overflow_add-emptied c = omega (
  arith,
  rewrite-le _ _ _ _ _ _ c.rewrite.ensures,
  c.requires,
)

pub returns-then-is_valid : goal.returns-then-is_valid
returns-then-is_valid c = turn-valid _ _ _ _ _ _ _ _ _ refl
    c.aged_word.ensures
    c.rewrite.ensures _ c.is_valid.ensures c.if-is_valid.true

pub returns : goal.returns
returns c = turn-old _ _ _ _ _ _ _ _ _ refl
    c.aged_word.ensures
    c.rewrite.ensures _
    c.is_valid.ensures c.if-is_valid.false _ _
    c.pfn_of.ensures c.give-reply.ensures
