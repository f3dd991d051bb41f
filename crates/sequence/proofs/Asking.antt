-- Demand 3 is not empty: any list of requests, each handed the current machine, with any refused calls between them, is such a sequence.
-- Assumes nothing.
use Prim.Native.Nat.{ℕ}
use mathlib.Core.Path.{◌≡◌, refl, ap, ◌∙◌}
use mathlib.Core.Bool.{Bool, true, false}
use mathlib.Core.List.{List, [], ◌∷◌}
use Rattle.runs.proofs.Bools.{clash}
use Rattle.page_table.specs.Stretches.{tables_fit}
use Rattle.slots.specs.Buffer.{Buffer, buffer_fits}
use Rattle.store.specs.Machine.{Machine}
use Rattle.store.proofs.StoreLaws.{store-gives}
use Rattle.control.specs.Starting.{start_reply, started_buffer}
use Rattle.control.proofs.CallLaws.{start_gives, setting-gives}
use Rattle.mmu.proofs.ServedLaws.{served-gives}
use Rattle.sequence.specs.Calls.{Call, Event, accepted, handed, left_by, Promise, Promised}
use Rattle.sequence.specs.Calls.Call.{ServedAccess, TableStore, GuardedSetting}
use Rattle.sequence.specs.Requests.{Request}
use Rattle.sequence.specs.Calls.{call_on}
use Rattle.sequence.specs.Requests.Request.{ToAccess, ToStore, ToSet}
use Rattle.sequence.specs.Systems.{System, begun, system_after}
use Rattle.sequence.specs.Demand3.{HoldsThroughout, Handed, HandedThroughout, Demand3}
use Rattle.sequence.specs.Systems.Moment.{Start}
use Rattle.sequence.specs.Asks.{Ask, call_of, event_of, events_of, StraysRefused}
use Rattle.sequence.specs.Asks.Ask.{Now, Stray}
use Rattle.sequence.proofs.Refusing.{has-no-effect}
use Rattle.sequence.proofs.Theorem.{demand3}

pub event-call : (m : Machine) (c : Call) → (event_of m c).call ≡ c
unfolding event_of
event-call m (ServedAccess given a) = refl
event-call m (TableStore given p) = refl
event-call m (GuardedSetting given number value) = refl

-- every call keeps its promise
event-promised : (m : Machine) (c : Call) → Promised m (event_of m c)
unfolding Promised Promise event_of
event-promised m (ServedAccess given a) = (served-gives given a _ _ refl refl, refl)
event-promised m (TableStore given p) = store-gives given p _ _ _ refl refl refl
event-promised m (GuardedSetting given number value) = (setting-gives given number value _ refl, refl, refl)

-- a request is handed the machine
handed-now : (m : Machine) (q : Request) → handed m (call_on m q) ≡ m
unfolding handed call_on
handed-now m (ToAccess a) = refl
handed-now m (ToStore p) = refl
handed-now m (ToSet number value) = refl

pub handed-one : (m : Machine) (c : Call) → (accepted c ≡ true → handed m c ≡ m) → Handed m (event_of m c)
handed-one m c h = record {
  same-machine = rw (event-call m c) h;
  promised = event-promised m c;
}

-- what a request's call left is the machine of the next moment, refused or not
pub left-machine : (s : System) (q : Request) → let e = event_of s.machine (call_on s.machine q) in left_by e ≡ (system_after s e).machine
unfolding system_after
left-machine s q = by-test (accepted e.call) refl
  where
    e : Event
    e = event_of s.machine (call_on s.machine q)

    by-test : (b : Bool) → accepted e.call ≡ b → left_by e ≡ (system_after s e).machine
    by-test true ok = rw ok
    by-test false no' =
        (has-no-effect s e no' (event-promised s.machine (call_on s.machine q))).untouched
        ∙ ap (handed s.machine) (event-call s.machine (call_on s.machine q))
        ∙ handed-now s.machine q
        ∙ rw no'

pub asked : (s : System) (qs : List Ask) → StraysRefused qs → HandedThroughout s (events_of s qs)
unfolding StraysRefused HandedThroughout events_of call_of
asked s [] h = tt
asked s (Now q ∷ qs) h = (handed-one s.machine (call_on s.machine q) (λ _. handed-now s.machine q), asked (system_after s (event_of s.machine (call_on s.machine q))) qs h)
asked s (Stray c ∷ qs) h = (handed-one s.machine c (λ ok. absurd (clash ok h.0)), asked (system_after s (event_of s.machine c)) qs h.1)

-- so demand 3 speaks of every list of requests, from every start
pub of-every-list : (lent : Buffer) (words : List ℕ) → buffer_fits lent ≡ true → tables_fit words ≡ true → (qs : List Ask) → StraysRefused qs
    → let s = begun (start_reply lent) (started_buffer lent) words in HoldsThroughout s Start (events_of s qs)
unfolding Demand3
of-every-list lent words bf wf qs h =
    demand3 lent (started_buffer lent) (start_reply lent) words bf (start_gives lent _ _ refl refl) wf _ (asked _ qs h)
