-- The stretch of the bytes lent becomes the number's.
use Rattle.wire.proofs.Elements.{with-stretch}
use Rattle.wire.proofs.write.Goals as goal

pub returns : goal.returns
returns g c = with-stretch _ _ _ _ _ _ _ c.SIZE.ensures c.SIZE-2.ensures c.put.ensures
