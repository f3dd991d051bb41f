-- The stretch of the bytes lent has the number.
use Rattle.wire.proofs.Elements.{of-stretch}
use Rattle.wire.proofs.read.Goals as goal

pub returns-clause-number : goal.returns-clause-number
returns-clause-number g c = of-stretch _ _ _ _ _ _ c.SIZE.ensures c.SIZE-2.ensures c.from_bytes.ensures
