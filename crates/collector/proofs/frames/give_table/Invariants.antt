use Rattle.collector.proofs.CheckLaws.{Giving}
use Rattle.collector.proofs.frames.give_table.Given as goal

abbrev pub invariant-loop-word : goal.invariant-loop-word
invariant-loop-word l = Giving l.words l.frames.first l.frames.size l.table l.initial.left l.left l.word-index
