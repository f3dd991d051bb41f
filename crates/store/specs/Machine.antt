-- All that the unit's calls are handed: registers by value, the buffer and the table words lent.
use Rattle.std.specs.Prelude.{ℕ, List}
use Rattle.registers.specs.declared.Registers.{Registers}
use Rattle.slots.specs.Buffer.{Buffer}

pub record Machine : Type 0 where
  pub registers : Registers
  pub buffer : Buffer
  pub words : List ℕ
