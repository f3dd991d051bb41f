-- Calls one after another, with what each answered and left, and the boot mode set between them. Each call is handed the state that the
-- last one left, and any run.
use Rattle.std.specs.Prelude.{ℕ, Bool, List, [], ◌∷◌, Result}
use Rattle.mups16.specs.States.{with_boot_mode}
use Rattle.mups16.specs.Map.{MapGives}
use Rattle.mups16.specs.Read.{ReadLowGives, ReadHighGives, FaultAddressGives}
use Rattle.mups16.specs.Set.{SetTableIndexGives, SetEntryGives}
use Rattle.mups16.specs.declared.State.{State}
use Rattle.mups16.specs.declared.refusal.Refusal.{Refusal}
use Rattle.mups16.specs.declared.MapReply.{MapReply}

pub data Event : Type 0 where
  Map : (entries : List ℕ) (virtual : ℕ) (user write : Bool) (reply : MapReply) → Event
  ReadLow : (entries : List ℕ) (at : ℕ) (answer : Result ℕ Refusal) → Event
  ReadHigh : (entries : List ℕ) (at : ℕ) (answer : Result ℕ Refusal) → Event
  FaultAddress : (address : ℕ) → Event
  SetTableIndex : (index : ℕ) (after : State) → Event
  SetEntry : (entries : List ℕ) (at e : ℕ) (after : List ℕ) (answer : Result (Unit {0}) Refusal) → Event
  SetBootMode : (mode : Bool) → Event

-- the call was handed this state, and kept its promise; the boot mode is the caller's to set
unfoldable pub Kept : State → Event → Type 0
Kept s (Map entries virtual user write reply) = MapGives entries s virtual user write reply
Kept s (ReadLow entries at answer) = ReadLowGives entries at answer
Kept s (ReadHigh entries at answer) = ReadHighGives entries s at answer
Kept s (FaultAddress address) = FaultAddressGives s address
Kept s (SetTableIndex index after) = SetTableIndexGives s index after
Kept s (SetEntry entries at e after answer) = SetEntryGives entries at e after answer
Kept s (SetBootMode mode) = Unit {0}

-- the state that it left: a call that returns none leaves the one that it was handed
unfoldable pub state_left : State → Event → State
state_left s (Map entries virtual user write reply) = reply.state
state_left s (ReadLow entries at answer) = s
state_left s (ReadHigh entries at answer) = s
state_left s (FaultAddress address) = s
state_left s (SetTableIndex index after) = after
state_left s (SetEntry entries at e after answer) = s
state_left s (SetBootMode mode) = with_boot_mode mode s

unfoldable pub KeptThroughout : State → List Event → Type 0
KeptThroughout s [] = Unit {0}
KeptThroughout s (e ∷ es) = Kept s e × KeptThroughout (state_left s e) es

unfoldable pub last_state : State → List Event → State
last_state s [] = s
last_state s (e ∷ es) = last_state (state_left s e) es
