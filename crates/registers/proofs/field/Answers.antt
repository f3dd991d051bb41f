use Rattle.registers.specs.Fields.{field}
use Rattle.registers.proofs.field.Goals as goal

pub returns : goal.returns
unfolding field
returns c = rw c.from-fields.ensures
