use Prim.Native.Nat.{◌*◌}
use mathlib.Core.Path.{◌≡◌}
use Rattle.runs.specs.Counts.{count}
use Rattle.heap.proofs.BitLaws.{held_within}
use Rattle.heap.proofs.bits.held_frames.Given as goal

abbrev pub invariant-loop-k : goal.invariant-loop-k
invariant-loop-k l = l.number ≡ count (held_within l.bits l.size) (64 * l.k)
