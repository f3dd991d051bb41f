-- The fault address is that of the last fault. Assumes nothing.
use Prim.Native.Nat.{ℕ}
use mathlib.Core.Path.{◌≡◌, refl, sym, ap, ◌∙◌}
use mathlib.Core.Bool.{Bool, true, false, cond}
use mathlib.Core.List.{List, [], ◌∷◌}
use Rattle.std.specs.Prelude.{Ok}
use Rattle.mups16.specs.Answers.{wrong_length, by_entries}
use Rattle.mups16.specs.Entries.{entries_fit}
use Rattle.mups16.specs.Map.{mapping_of, state_after, map_reply}
use Rattle.mups16.specs.Histories.{Event, Kept, state_left, KeptThroughout, last_state}
use Rattle.mups16.specs.Histories.Event.{Map, ReadLow, ReadHigh, FaultAddress, SetTableIndex, SetEntry, SetBootMode}
use Rattle.mups16.specs.LastFault.{any_fault, fault_in, fault_by, last_fault, LastFault}
use Rattle.mups16.specs.declared.State.{State}
use Rattle.mups16.specs.declared.Mapping.{Mapping}
use Rattle.mups16.specs.declared.MapReply.{MapReply}

-- a map's reply tells the fault address that it leaves
tells : (s : State) (virtual : ℕ) → MapReply → Type 0
tells s virtual r = r.state.fault_address ≡ fault_in r.answer virtual s.fault_address

map-tells : (entries : List ℕ) (s : State) (virtual : ℕ) (user write : Bool) → tells s virtual (map_reply entries s virtual user write)
unfolding tells map_reply by_entries fault_in any_fault
map-tells entries s virtual user write = by-run (entries_fit entries) (mapping_of entries s virtual user write)
  where
    by-run : (b : Bool) (m : Mapping)
        → tells s virtual (cond b (record { answer = Ok m; state = state_after s virtual m }) (record { answer = wrong_length; state = s }))
    by-run true m = refl
    by-run false m = refl

-- one event
step : (s : State) (e : Event) → Kept s e → (state_left s e).fault_address ≡ fault_by e s.fault_address
unfolding Kept state_left fault_by tells
step s (Map entries virtual user write reply) k =
    ap (λ (r : MapReply). r.state.fault_address) k.reply-is
    ∙ map-tells entries s virtual user write
    ∙ sym (ap (λ (r : MapReply). fault_in r.answer virtual s.fault_address) k.reply-is)
step s (ReadLow entries at answer) k = refl
step s (ReadHigh entries at answer) k = refl
step s (FaultAddress address) k = refl
step s (SetTableIndex index after) k = ap (λ (q : State). q.fault_address) k.state-is
step s (SetEntry entries at e after answer) k = refl
step s (SetBootMode mode) k = refl

throughout : (s : State) (history : List Event) → KeptThroughout s history
    → (last_state s history).fault_address ≡ last_fault s.fault_address history
unfolding KeptThroughout last_state last_fault
throughout s [] k = refl
throughout s (e ∷ es) k = throughout (state_left s e) es k.1 ∙ ap (λ (n : ℕ). last_fault n es) (step s e k.0)

pub last-fault : LastFault
unfolding LastFault
last-fault s history k address g = g.address_is ∙ throughout s history k
