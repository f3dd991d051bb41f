use Rattle.slots.specs.Buffer.Buffer.{Wide}
use Rattle.slots.proofs.Start.{Sets}
use Rattle.slots.proofs.empty_slots.Given as goal

abbrev pub invariant-loop-set : goal.invariant-loop-set
invariant-loop-set l = Sets (Wide l.initial.buffer) l.buffer l.set
