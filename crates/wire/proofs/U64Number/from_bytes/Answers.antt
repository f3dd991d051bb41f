-- The bytes are worth what the library's sum says.
use Rattle.std.proofs.Common.{arith}
use Rattle.wire.specs.Wire.{number_at}
use Rattle.wire.proofs.U64Number.from_bytes.Goals as goal

pub returns : goal.returns
unfolding number_at
returns c = omega (arith, c.from_be_bytes.ensures)
