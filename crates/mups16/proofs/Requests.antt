-- Whatever is asked, there is a history in which each call keeps its promise. Assumes nothing.
use mathlib.Core.Path.{◌≡◌, refl, ap₂}
use mathlib.Core.List.{List, [], ◌∷◌, map}
use Rattle.mups16.specs.Histories.{Kept, state_left, KeptThroughout}
use Rattle.mups16.specs.Requests.{Request, request_of, event_of, history_of, EveryHistory}
use Rattle.mups16.specs.Requests.Request.{ToMap, ToReadLow, ToReadHigh, ToReadFault, ToSetTableIndex, ToSetEntry, ToSetBootMode}
use Rattle.mups16.specs.declared.State.{State}
use Rattle.mups16.proofs.MapLaws.{map_gives}
use Rattle.mups16.proofs.ReadLaws.{low-gives, high-gives}
use Rattle.mups16.proofs.SetLaws.{set_gives}

each-kept : (s : State) (q : Request) → Kept s (event_of s q)
unfolding Kept event_of
each-kept s (ToMap entries virtual user write) = map_gives entries s virtual user write _ refl
each-kept s (ToReadLow entries at) = low-gives entries at _ refl
each-kept s (ToReadHigh entries at) = high-gives entries at s _ refl
each-kept s ToReadFault = record { address_is = refl }
each-kept s (ToSetTableIndex index) = record { state-is = refl }
each-kept s (ToSetEntry entries at e) = set_gives entries at e _ _ refl refl
each-kept s (ToSetBootMode mode) = tt

-- each event is that of its request
of-its-request : (s : State) (q : Request) → request_of (event_of s q) ≡ q
unfolding request_of event_of
of-its-request s (ToMap entries virtual user write) = refl
of-its-request s (ToReadLow entries at) = refl
of-its-request s (ToReadHigh entries at) = refl
of-its-request s ToReadFault = refl
of-its-request s (ToSetTableIndex index) = refl
of-its-request s (ToSetEntry entries at e) = refl
of-its-request s (ToSetBootMode mode) = refl

all_asked : (s : State) (requests : List Request) → map request_of (history_of s requests) ≡ requests
unfolding history_of
all_asked s [] = refl
all_asked s (q ∷ qs) = ap₂ ◌∷◌ (of-its-request s q) (all_asked (state_left s (event_of s q)) qs)

all-kept : (s : State) (requests : List Request) → KeptThroughout s (history_of s requests)
unfolding KeptThroughout history_of
all-kept s [] = tt
all-kept s (q ∷ qs) = (each-kept s q, all-kept (state_left s (event_of s q)) qs)

pub every-history : EveryHistory
unfolding EveryHistory
every-history s requests = record { requests-are = all_asked s requests; kept = all-kept s requests }
