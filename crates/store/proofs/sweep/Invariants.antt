-- The slots below the one at hand are judged.
use Rattle.slots.specs.Buffer.Buffer.{Wide}
use Rattle.store.proofs.KeptLaws.{Sweeping}
use Rattle.store.proofs.sweep.Given as goal

abbrev pub invariant-loop-slot : goal.invariant-loop-slot
invariant-loop-slot g l = Sweeping (g.T.TableRun.words l.tables) (Wide l.initial.buffer) (Wide l.buffer) l.emptied l.slot
