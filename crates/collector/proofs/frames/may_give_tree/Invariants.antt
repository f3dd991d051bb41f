use Rattle.collector.proofs.CheckLaws.{GivingTree}
use Rattle.collector.proofs.frames.may_give_tree.Given as goal

abbrev pub invariant-loop-word : goal.invariant-loop-word
invariant-loop-word l = GivingTree l.words l.frames.first l.frames.size l.directory l.initial.left l.left l.word-index
