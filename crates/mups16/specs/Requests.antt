-- What a user asks for, and the history in which the calls answer it.
use Rattle.std.specs.Prelude.{ℕ, ◌≡◌, Bool, List, [], ◌∷◌, map}
use Rattle.mups16.specs.States.{with_index}
use Rattle.mups16.specs.Map.{map_reply}
use Rattle.mups16.specs.Read.{read_low, read_high}
use Rattle.mups16.specs.Set.{set_answer, entries_after_set}
use Rattle.mups16.specs.Histories.{Event, state_left, KeptThroughout}
use Rattle.mups16.specs.Histories.Event.{Map, ReadLow, ReadHigh, FaultAddress, SetTableIndex, SetEntry, SetBootMode}
use Rattle.mups16.specs.declared.State.{State}

pub data Request : Type 0 where
  ToMap : (entries : List ℕ) (virtual : ℕ) (user write : Bool) → Request
  ToReadLow : (entries : List ℕ) (at : ℕ) → Request
  ToReadHigh : (entries : List ℕ) (at : ℕ) → Request
  ToReadFault : Request
  ToSetTableIndex : (index : ℕ) → Request
  ToSetEntry : (entries : List ℕ) (at e : ℕ) → Request
  ToSetBootMode : (mode : Bool) → Request

unfoldable pub request_of : Event → Request
request_of (Map entries virtual user write reply) = ToMap entries virtual user write
request_of (ReadLow entries at answer) = ToReadLow entries at
request_of (ReadHigh entries at answer) = ToReadHigh entries at
request_of (FaultAddress address) = ToReadFault
request_of (SetTableIndex index after) = ToSetTableIndex index
request_of (SetEntry entries at e after answer) = ToSetEntry entries at e
request_of (SetBootMode mode) = ToSetBootMode mode

-- the event in which a call answers as its definition says
unfoldable pub event_of : State → Request → Event
event_of s (ToMap entries virtual user write) = Map entries virtual user write (map_reply entries s virtual user write)
event_of s (ToReadLow entries at) = ReadLow entries at (read_low entries at)
event_of s (ToReadHigh entries at) = ReadHigh entries at (read_high entries s at)
event_of s ToReadFault = FaultAddress s.fault_address
event_of s (ToSetTableIndex index) = SetTableIndex index (with_index index s)
event_of s (ToSetEntry entries at e) = SetEntry entries at e (entries_after_set entries at e) (set_answer entries)
event_of s (ToSetBootMode mode) = SetBootMode mode

unfoldable pub history_of : State → List Request → List Event
history_of s [] = []
history_of s (q ∷ qs) = event_of s q ∷ history_of (state_left s (event_of s q)) qs

-- a history of these requests
pub record HistoryOf (s : State) (requests : List Request) (history : List Event) : Type 0 where
  pub requests-are : map request_of history ≡ requests
  pub kept : KeptThroughout s history

-- whatever is asked, there is such a history: what is said of all of them is not said of none
unfoldable pub EveryHistory : Type 0
EveryHistory = (s : State) (requests : List Request) → HistoryOf s requests (history_of s requests)
