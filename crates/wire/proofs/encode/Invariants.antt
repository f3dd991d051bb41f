-- The bytes of the elements below the index are written.
use Rattle.std.proofs.Common.{map}
use Rattle.wire.proofs.Turns.{Encoded}
use Rattle.wire.proofs.encode.Given as goal

abbrev pub invariant-loop-i : goal.invariant-loop-i
invariant-loop-i g l = Encoded g.N.Number.SIZE (map g.N.Number.value l.numbers) l.initial.bytes l.bytes l.i
