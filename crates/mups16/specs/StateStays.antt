-- What the calls leave of the state that they are handed.
use Rattle.std.specs.Prelude.{ℕ, ◌≡◌, Bool, List}
use Rattle.runs.specs.Bits.{bits}
use Rattle.mups16.specs.Map.{MapGives}
use Rattle.mups16.specs.Set.{SetTableIndexGives}
use Rattle.mups16.specs.declared.State.{State}
use Rattle.mups16.specs.declared.MapReply.{MapReply}

-- a map, refused or not, over any run, leaves the table index and the boot mode as they came; a set of the table index leaves all else
pub record Stays (s : State) : Type 0 where
  pub map-index : (entries : List ℕ) (virtual : ℕ) (user write : Bool) (reply : MapReply) → MapGives entries s virtual user write reply
      → reply.state.table_index ≡ s.table_index
  pub map-boot-mode : (entries : List ℕ) (virtual : ℕ) (user write : Bool) (reply : MapReply) → MapGives entries s virtual user write reply
      → reply.state.boot_mode ≡ s.boot_mode
  pub set-index : (index : ℕ) (after : State) → SetTableIndexGives s index after
      → after ≡ record { table_index = bits 4 0 index; boot_mode = s.boot_mode; fault_address = s.fault_address }

unfoldable pub StateStays : Type 0
StateStays = (s : State) → Stays s
