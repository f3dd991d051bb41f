-- What a C host holds: the bytes of registers, buffer and tables, and so a machine.
use Rattle.std.specs.Prelude.{ℕ, List}
use Rattle.store.specs.Machine.{Machine}
use Rattle.mmu_c.specs.Runs.{machine_of}

pub record Bytes : Type 0 where
  pub registers : List ℕ
  pub buffer : List ℕ
  pub tables : List ℕ

-- the machine that they hold
unfoldable pub machine_in : Bytes → Machine
machine_in h = machine_of h.registers h.buffer h.tables
