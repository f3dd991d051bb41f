-- What the unit keeps from call to call: the table index, the boot mode and the fault address.
use Rattle.std.specs.Prelude.{ℕ, Bool}
use Rattle.runs.specs.Bits.{bits}
use Rattle.mups16.specs.declared.State.{State}

-- "A table index keeps its low 5 bits."
abbrev pub index_of : State → ℕ
index_of s = bits 4 0 s.table_index

abbrev pub with_index : (index : ℕ) → State → State
with_index index s = record { table_index = bits 4 0 index; boot_mode = s.boot_mode; fault_address = s.fault_address }

abbrev pub with_fault : (address : ℕ) → State → State
with_fault address s = record { table_index = s.table_index; boot_mode = s.boot_mode; fault_address = address }

-- the boot mode is a line of the machine, which no operation changes
abbrev pub with_boot_mode : (mode : Bool) → State → State
with_boot_mode mode s = record { table_index = s.table_index; boot_mode = mode; fault_address = s.fault_address }
