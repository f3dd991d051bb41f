use mathlib.Core.Path.{refl}
use Rattle.registers.specs.Fields.{to_words}
use Rattle.registers.proofs.ArrayU32FIELDSFromRegisters.from.Goals as goal

pub returns : goal.returns
unfolding to_words
returns c = refl
