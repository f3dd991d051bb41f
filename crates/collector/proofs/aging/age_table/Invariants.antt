use Rattle.slots.specs.Buffer.{Buffer}
use Rattle.collector.proofs.TurnLaws.{Going}
use Rattle.collector.proofs.aging.age_table.Given as goal

abbrev pub invariant-loop-k : goal.invariant-loop-k
invariant-loop-k l = Going l.frames.first l.frames.size l.table (record { buffer = Buffer.Wide l.initial.buffer; words = l.initial.words; aged = l.initial.aged })
    (record { buffer = Buffer.Wide l.buffer; words = l.words; aged = l.aged }) l.k
