use Rattle.registers.specs.Fields.{from_words, zero_registers}
use Rattle.registers.proofs.zero_registers.Goals as goal

pub returns : goal.returns
unfolding zero_registers from_words
returns c = c.from.ensures
