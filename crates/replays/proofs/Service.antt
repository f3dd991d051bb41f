-- A trace stays in service. Assumes nothing.
use Prim.Native.Nat.{ℕ, zero, suc, ◌+◌, ◌*◌, ◌≤◌}
use mathlib.Core.Path.{◌≡◌, refl, sym, ap, ◌∙◌, subst}
use mathlib.Core.Bool.{Bool, true, false, cond}
use mathlib.Core.List.{List, [], ◌∷◌, ◌++◌}
use native.Mathlib.Omega.{arith}
use lib.ListN.{length}
use lib.Dec.{eqb, leb}
use borrow.Author.Tests.{le-leb}
use Rattle.wire.specs.Wire.{element_at}
use Rattle.runs.proofs.Bools.{clash}
use Rattle.registers.specs.Refusals.{refuse_unless, draw_fits}
use Rattle.registers.specs.declared.Access.{Access}
use Rattle.registers.specs.declared.Outcome.{Outcome}
use Rattle.registers.specs.declared.Outcome.TheVariants.{At, Fault, Done, Refused}
use Rattle.registers.specs.declared.Reply.{Reply}
use Rattle.page_table.specs.declared.Walk.{Walk}
use Rattle.page_table.specs.declared.Walk.TheVariants.{Leaf, Absent, Broken}
use Rattle.mmu.specs.FaultValues.{IsFault, IfFault, DecidedBy}
use Rattle.sequence.specs.Reader.{Settings, Reader, settings_of, reader_walk, reader_answer}
use Rattle.sequence.specs.Account.{Slots}
use Rattle.sequence.specs.Effects.{AnswerOwed, CountOwed}
use Rattle.sequence.specs.Requests.{effect_of, own_refusal}
use Rattle.sequence.specs.Requests.Request.{ToAccess, ToStore, ToSet}
use Rattle.sequence.specs.Calls.{Call, Event, refusal, accepted, request_of, effect_by, call_on}
use Rattle.sequence.specs.Calls.Call.{ServedAccess, TableStore, GuardedSetting}
use Rattle.sequence.specs.Systems.{System, system_after, Moment, IfAccepted, IfRefused}
use Rattle.sequence.specs.Systems.Moment.{Start, After}
use Rattle.sequence.specs.Sentences.{AnsweredAsReader, Counted}
use Rattle.sequence.specs.Demand3.{Holds, HoldsThroughout}
use Rattle.sequence.specs.Asks.{call_of, event_of, events_of}
use Rattle.sequence.specs.FaultValues.{by_walk}
use Rattle.sequence.proofs.FaultValues.{reader-faults}
use Rattle.sequence.proofs.Moments.{holds-now}
use Rattle.trace.specs.Commands.{kind_of, draw_of, index_of, value_of, well_formed, setting_of, access_of, asked_by, command_of, command_at}
use Rattle.trace.specs.Commands.{commands_from, record_count, commands_of}
use Rattle.trace.specs.declared.Command.{Command}
use Rattle.trace.specs.declared.Command.TheVariants.{Serve, Store, Set, Malformed}
use Rattle.report.proofs.FaultKinds.{counted-by-kind}
use Rattle.report.specs.Gains.{has_column}
use Rattle.replays.specs.Traces.{asks_of, trace_system, record_events, trace_events}
use Rattle.replays.specs.Service.{AtEach, OfEach, ContextServed, KindHasColumn, FaultCounted, AccessAccepted, TracesAreServed}
use Rattle.replays.specs.Service.{KindNot0, NoKind0}
use Rattle.replays.proofs.Traces.{next, records-hold}

-- ---- contexts

context-served : (s : System) (at : Moment) → Holds s at → ContextServed s
unfolding settings_of
context-served s at h = record {
  in_registers = h.in-service.context-served;
  in-reader = subst (λ (d : Settings). d.context ≤ 62) h.same-settings h.in-service.context-served;
}

pub contexts-served : (s : System) (at : Moment) (es : List Event) → HoldsThroughout s at es → AtEach ContextServed s es
unfolding HoldsThroughout AtEach
contexts-served s at [] h = context-served s at h
contexts-served s at (e ∷ es) h = (context-served s at h.0, contexts-served (system_after s e) (After s e) es h.1)

-- ---- faults

if-fault : (P Q : ℕ → Type 0) → ((value : ℕ) → P value → Q value) → (outcome : Outcome) → IfFault P outcome → IfFault Q outcome
unfolding IfFault
if-fault P Q f (At address) h = tt
if-fault P Q f (Fault value) h = f value h
if-fault P Q f (Done emptied) h = tt
if-fault P Q f (Refused number) h = tt

is-fault : (P Q : ℕ → Type 0) → ((value : ℕ) → P value → Q value) → (outcome : Outcome) → IsFault P outcome → IfFault Q outcome
unfolding IsFault IfFault
is-fault P Q f (At address) h = tt
is-fault P Q f (Fault value) h = f value h
is-fault P Q f (Done emptied) h = tt
is-fault P Q f (Refused number) h = tt

walk-column : (found : Walk) (outcome : Outcome) → DecidedBy 1 found outcome → KindHasColumn outcome
unfolding DecidedBy
walk-column (Leaf f) outcome h = if-fault _ _ ((counted-by-kind 0).possible (Leaf f)) outcome h
walk-column (Absent s) outcome h = is-fault _ _ ((counted-by-kind 0).possible (Absent s)) outcome h
walk-column (Broken s) outcome h = is-fault _ _ ((counted-by-kind 0).possible (Broken s)) outcome h

reader-column : (d : Reader) (a : Access) → KindHasColumn (reader_answer d a)
reader-column d a = by-rule (by_walk d a) refl
  where
    by-rule : (w : Bool) → by_walk d a ≡ w → KindHasColumn (reader_answer d a)
    by-rule true e = walk-column (reader_walk d a) (reader_answer d a) ((reader-faults d a).walked e)
    by-rule false e = if-fault _ _ (λ value none. absurd none) (reader_answer d a) ((reader-faults d a).else-none e)

-- what a call owes has no other fault
owed-column : (d : Reader) (slots : Slots) (c : Call) (outcome : Outcome) → AnswerOwed d (effect_by c) outcome
    → CountOwed d slots (effect_by c) outcome → KindHasColumn outcome
unfolding AnswerOwed CountOwed effect_by request_of effect_of IfFault
owed-column d slots (ServedAccess given a) outcome p q = subst KindHasColumn (sym p) (reader-column d a)
owed-column d slots (TableStore given put) outcome p q = subst KindHasColumn (sym q) tt
owed-column d slots (GuardedSetting given number value) outcome p q = subst KindHasColumn (sym q) tt

fault-counted : (s : System) (e : Event) → Holds (system_after s e) (After s e) → FaultCounted s e
unfolding IfAccepted IfRefused AnsweredAsReader Counted FaultCounted IfFault
fault-counted s e h = by-test (accepted e.call) refl
  where
    by-test : (b : Bool) → accepted e.call ≡ b → KindHasColumn e.reply.outcome
    by-test true ok = owed-column s.reader s.slots e.call e.reply.outcome (h.same_answer ok) (h.right-count ok)
    by-test false no' = subst (λ (r : Reply). KindHasColumn r.outcome) (sym (h.refusal-has-no-effect no').reply-is) tt

pub faults-counted : (s : System) (at : Moment) (es : List Event) → HoldsThroughout s at es → OfEach FaultCounted s es
unfolding HoldsThroughout OfEach
faults-counted s at [] h = tt
faults-counted s at (e ∷ es) h =
    (fault-counted s e (holds-now _ _ es h.1), faults-counted (system_after s e) (After s e) es h.1)

-- a kind that has a column is not 0
kind-not-0 : (outcome : Outcome) → KindHasColumn outcome → KindNot0 outcome
unfolding IfFault has_column
kind-not-0 (Fault value) h = λ z. clash (subst (λ (kind : ℕ). has_column kind ≡ true) z h) refl
kind-not-0 (At address) h = tt
kind-not-0 (Done emptied) h = tt
kind-not-0 (Refused number) h = tt

none-of-kind-0 : (s : System) (es : List Event) → OfEach FaultCounted s es → OfEach NoKind0 s es
unfolding OfEach FaultCounted NoKind0
none-of-kind-0 s [] h = tt
none-of-kind-0 s (e ∷ es) h = (kind-not-0 e.reply.outcome h.0, none-of-kind-0 (system_after s e) es h.1)

-- ---- accesses

-- every access of some records has a draw of two bits
unfoldable pub Drawn : List Command → Type 0
Drawn [] = Unit {0}
Drawn (Serve a ∷ cs) = (draw_fits a.draw ≡ true) × Drawn cs
Drawn (Store index value ∷ cs) = Drawn cs
Drawn (Set number value ∷ cs) = Drawn cs
Drawn (Malformed ∷ cs) = Drawn cs

draw-fits : (n : ℕ) → draw_fits (access_of n).draw ≡ true
unfolding draw_fits access_of draw_of
draw-fits n = le-leb (draw_of n) 3 (omega arith)

command-drawn : (input : List ℕ) (i : ℕ) (cs : List Command) → Drawn cs → Drawn (command_at input i ∷ cs)
unfolding Drawn command_at command_of asked_by
command-drawn input i cs h = by_tests (leb (8 * i + 8) (length input)) (well_formed n) (eqb (kind_of n) 0) (eqb (kind_of n) 1)
  where
    n : ℕ
    n = element_at 8 input i

    by_tests : (whole formed serve store : Bool)
        → Drawn (cond whole (cond formed (cond serve (Serve (access_of n))
        (cond store (Store (index_of n) (value_of n)) (Set (setting_of (kind_of n)) (value_of n)))) Malformed) Malformed ∷ cs)
    by_tests true true true store = (draw-fits n, h)
    by_tests true true false true = h
    by_tests true true false false = h
    by_tests true false serve store = h
    by_tests false formed serve store = h

from-drawn : (input : List ℕ) (i count : ℕ) → Drawn (commands_from input i count)
unfolding Drawn commands_from
from-drawn input i zero = tt
from-drawn input i (suc count) = command-drawn input i (commands_from input (suc i) count) (from-drawn input (suc i) count)

pub commands-drawn : (input : List ℕ) → Drawn (commands_of input)
unfolding commands_of
commands-drawn input = from-drawn input 0 (record_count (length input))

pub drawn-behind : (before : List Command) (a : Access) (after : List Command) → Drawn (before ++ (Serve a ∷ after))
    → draw_fits a.draw ≡ true
unfolding Drawn
drawn-behind [] a after h = h.0
drawn-behind (Serve b ∷ cs) a after h = drawn-behind cs a after h.1
drawn-behind (Store index value ∷ cs) a after h = drawn-behind cs a after h
drawn-behind (Set number value ∷ cs) a after h = drawn-behind cs a after h
drawn-behind (Malformed ∷ cs) a after h = drawn-behind cs a after h

-- an access with such a draw is accepted
pub access-accepted : (s : System) (at : Moment) (a : Access) → Holds s at → draw_fits a.draw ≡ true
    → accepted (ServedAccess s.machine a) ≡ true
unfolding accepted call_on own_refusal refuse_unless
access-accepted s at a h d =
    let none : refusal (ServedAccess s.machine a) ≡ 0 = h.in-service.own-refusals (ToAccess a) ∙ rw d in
    ap (λ (n : ℕ). eqb n 0) none

pub accesses-accepted : (s : System) (at : Moment) (cs : List Command) → Drawn cs → HoldsThroughout s at (events_of s (asks_of cs))
    → OfEach AccessAccepted s (events_of s (asks_of cs))
unfolding Drawn HoldsThroughout OfEach asks_of events_of call_of call_on event_of AccessAccepted
accesses-accepted s at [] d h = tt
accesses-accepted s at (Serve a ∷ cs) d h =
    (λ given b e. access-accepted s at a h.0 d.0, accesses-accepted (next s (ToAccess a)) _ cs d.1 h.1)
accesses-accepted s at (Store index value ∷ cs) d h = (
  λ given b e. absurd (let z : ◌≡◌ {A = ℕ} 0 1 = cc in omega arith),
  accesses-accepted (next s (ToStore (record { index = index; value = value }))) _ cs d h.1,
)
accesses-accepted s at (Set number value ∷ cs) d h = (
  λ given b e. absurd (let z : ◌≡◌ {A = ℕ} 0 1 = cc in omega arith),
  accesses-accepted (next s (ToSet number value)) _ cs d h.1,
)
accesses-accepted s at (Malformed ∷ cs) d h = accesses-accepted s at cs d h

pub traces-are-served : TracesAreServed
unfolding trace_events record_events
traces-are-served lent input f =
    let h = records-hold lent f (commands_of input) in
    record {
      contexts-served = contexts-served (trace_system lent) Start (trace_events lent input) h;
      faults-counted = faults-counted (trace_system lent) Start (trace_events lent input) h;
      no-kind-0 =
          none-of-kind-0 (trace_system lent) (trace_events lent input) (faults-counted (trace_system lent) Start (trace_events lent input) h);
      accesses-accepted = accesses-accepted (trace_system lent) Start (commands_of input) (commands-drawn input) h;
    }
