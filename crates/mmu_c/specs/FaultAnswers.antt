-- What a host reads off the answer of a served access that faulted.
use Rattle.std.specs.Prelude.{ℕ, ◌≡◌, true, false, List}
use Rattle.runs.specs.Bits.{bits, flag}
use Rattle.registers.specs.declared.Access.{Access}
use Rattle.page_table.specs.Faults.{fault_kind, fault_level, fault_global}
use Rattle.mmu.specs.FaultValues.{IfFault, ServedFault}
use Rattle.mmu_c.specs.Runs.{machine_of}
use Rattle.mmu_c.specs.ServedAccess.{served_refusal, served_reply, served_number}

-- the whole value, which says the fault's kind, level and tree; the loads; bit 54; and nothing else
pub record FaultRead (loads answer value : ℕ) : Type 0 where
  pub value-is : bits 47 32 answer ≡ value
  pub kind-is : bits 39 32 answer ≡ fault_kind value
  pub level-is : bits 43 40 answer ≡ fault_level value
  pub tree_is : flag 44 answer ≡ fault_global value
  pub loads-are : bits 51 48 answer ≡ loads
  pub is-fault : flag 54 answer ≡ true
  pub no_address : (bits 31 0 answer ≡ 0) × (flag 52 answer ≡ false)
  pub no-interrupt : flag 53 answer ≡ false
  pub not-refused : bits 63 55 answer ≡ 0

-- so of every accepted call: its fault is one that a served access has on the machine that the bytes hold, and is read off the answer
pub record AnswerTold (registers buffer tables : List ℕ) (a : Access) : Type 0 where
  pub fault-is : ServedFault (machine_of registers buffer tables) a (served_reply registers buffer tables a).outcome
  pub is_read : IfFault
      (FaultRead (served_reply registers buffer tables a).loads (served_number registers buffer tables a))
      (served_reply registers buffer tables a).outcome

abbrev pub FaultsRead : Type 0
FaultsRead = (registers buffer tables : List ℕ) (a : Access) → served_refusal registers buffer tables a ≡ 0
    → AnswerTold registers buffer tables a
