-- "the fault address kept from the last fault", over every history.
use Rattle.std.specs.Prelude.{ℕ, ◌≡◌, Bool, ◌||◌, cond, List, [], ◌∷◌, Result, Ok, Err}
use Rattle.mups16.specs.Read.{FaultAddressGives}
use Rattle.mups16.specs.Histories.{Event, KeptThroughout, last_state}
use Rattle.mups16.specs.Histories.Event.{Map, ReadLow, ReadHigh, FaultAddress, SetTableIndex, SetEntry, SetBootMode}
use Rattle.mups16.specs.declared.State.{State}
use Rattle.mups16.specs.declared.Mapping.{Mapping}
use Rattle.mups16.specs.declared.refusal.Refusal.{Refusal}

-- one of the three truth values holds; told here again, so that a wrong definition elsewhere shows
unfoldable pub any_fault : Mapping → Bool
any_fault m = m.no_mapping || m.write_violation || m.protection_violation

-- a map's virtual address where its answer has a fault, else the address of the fault before
unfoldable pub fault_in : Result Mapping Refusal → (virtual before : ℕ) → ℕ
fault_in (Ok m) virtual before = cond (any_fault m) virtual before
fault_in (Err refusal) virtual before = before

-- told by the answers, and not by any state
unfoldable pub fault_by : Event → (before : ℕ) → ℕ
fault_by (Map entries virtual user write reply) before = fault_in reply.answer virtual before
fault_by (ReadLow entries at answer) before = before
fault_by (ReadHigh entries at answer) before = before
fault_by (FaultAddress address) before = before
fault_by (SetTableIndex index after) before = before
fault_by (SetEntry entries at e after answer) before = before
fault_by (SetBootMode mode) before = before

-- the virtual address of the last map of a history that had a fault, or the first one where none had
unfoldable pub last_fault : (first : ℕ) → List Event → ℕ
last_fault first [] = first
last_fault first (e ∷ es) = last_fault (fault_by e first) es

-- after any history the fault address reads as that of the last fault
unfoldable pub LastFault : Type 0
LastFault =
    (s : State) (history : List Event) → KeptThroughout s history
    → (address : ℕ) → FaultAddressGives (last_state s history) address → address ≡ last_fault s.fault_address history
