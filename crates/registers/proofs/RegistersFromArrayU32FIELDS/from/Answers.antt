use mathlib.Core.Path.{refl}
use Rattle.registers.specs.Fields.{from_words}
use Rattle.registers.proofs.RegistersFromArrayU32FIELDS.from.Goals as goal

pub returns : goal.returns
unfolding from_words
returns c = refl
