-- The elements below the index are filled.
use Rattle.std.proofs.Common.{length, map}
use Rattle.wire.specs.Wire.{element_at}
use Rattle.wire.proofs.Turns.{Filled}
use Rattle.wire.proofs.decode.Given as goal

abbrev pub invariant-loop-i : goal.invariant-loop-i
invariant-loop-i g l = Filled (element_at g.N.Number.SIZE l.bytes) (length l.initial.numbers) (map g.N.Number.value l.numbers) l.i
