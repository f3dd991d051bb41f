use mathlib.Core.Path.{sym}
use Rattle.runs.proofs.Bits.{bits-low}
use Rattle.control.specs.Halves.{lo_of}
use Rattle.control.proofs.lo_of.Goals as goal

pub returns : goal.returns
unfolding lo_of
returns c = sym (bits-low 22 c.args.e)
