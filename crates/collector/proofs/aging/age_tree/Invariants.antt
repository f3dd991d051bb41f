use Rattle.slots.specs.Buffer.{Buffer}
use Rattle.collector.proofs.TreeTurns.{Climbing}
use Rattle.collector.proofs.aging.age_tree.Given as goal

abbrev pub invariant-loop-j : goal.invariant-loop-j
invariant-loop-j l = Climbing l.frames.first l.frames.size l.directory (record { buffer = Buffer.Wide l.initial.buffer; words = l.initial.words; aged = l.initial.aged })
    (record { buffer = Buffer.Wide l.buffer; words = l.words; aged = l.aged }) l.j
