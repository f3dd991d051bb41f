use Prim.Native.Nat.{◌%◌}
use mathlib.Core.Path.{ap}
use Rattle.runs.specs.Bits.{flag}
use Rattle.heap.specs.Bits.{held_at}
use Rattle.heap.proofs.bits.held_at.Goals as goal

pub returns : goal.returns
unfolding held_at
returns c = ap (flag (c.args.place % 64)) c.word_at.ensures
