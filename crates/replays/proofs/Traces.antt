-- The records of a trace are a sequence of which demand 3 speaks. Assumes nothing.
use Prim.Native.Nat.{ℕ, suc}
use mathlib.Core.Path.{◌≡◌, refl, ap, ◌∙◌}
use mathlib.Core.Bool.{true}
use mathlib.Core.List.{List, [], ◌∷◌, ◌++◌}
use lib.ListN.{replicate}
use Rattle.registers.specs.Refusals.{refuse_unless, by_refusal}
use Rattle.registers.specs.declared.Access.{Access}
use Rattle.page_table.specs.Stretches.{length_fits, tables_fit}
use Rattle.slots.specs.Buffer.{Buffer, buffer_fits}
use Rattle.store.specs.Machine.{Machine}
use Rattle.control.specs.Starting.{start_refusal, start_reply, started_buffer}
use Rattle.sequence.specs.Calls.{left_by, call_on}
use Rattle.sequence.specs.Requests.{Request}
use Rattle.sequence.specs.Requests.Request.{ToAccess, ToStore, ToSet}
use Rattle.sequence.specs.Systems.{System, begun, system_after}
use Rattle.sequence.specs.Systems.Moment.{Start}
use Rattle.sequence.specs.Moments.{system_after_all}
use Rattle.sequence.specs.Demand3.{HoldsThroughout}
use Rattle.sequence.specs.Asks.{call_of, event_of, events_of, StraysRefused}
use Rattle.sequence.proofs.Asking.{left-machine, asked, of-every-list}
use Rattle.line.specs.Lines.{line_of}
use Rattle.trace.specs.Commands.{commands_of}
use Rattle.trace.specs.Steps.{step_reply, buffer_after_step, words_after_step, machine_after_step}
use Rattle.trace.specs.Traces.{lines_of, start_machine, machine_after, trace_text}
use Rattle.trace.specs.declared.Command.{Command}
use Rattle.trace.specs.declared.Command.TheVariants.{Serve, Store, Set, Malformed}
use Rattle.replays.specs.Traces.{asks_of, trace_system, record_events, trace_events, CallsAre, text_of, TracesAreSequences}

-- the system after a request
abbrev pub next : System → Request → System
next s q = system_after s (event_of s.machine (call_on s.machine q))

-- a record leads to its machine
pub served-machine : (s : System) (a : Access) → machine_after_step s.machine (Serve a) ≡ (next s (ToAccess a)).machine
unfolding left_by event_of call_on machine_after_step step_reply buffer_after_step words_after_step
served-machine s a = left-machine s (ToAccess a)

pub stored-machine : (s : System) (index value : ℕ)
    → machine_after_step s.machine (Store index value) ≡ (next s (ToStore (record { index = index; value = value }))).machine
unfolding left_by event_of call_on machine_after_step step_reply buffer_after_step words_after_step
stored-machine s index value = left-machine s (ToStore (record { index = index; value = value }))

pub set-machine : (s : System) (number value : ℕ)
    → machine_after_step s.machine (Set number value) ≡ (next s (ToSet number value)).machine
unfolding left_by event_of call_on machine_after_step step_reply buffer_after_step words_after_step
set-machine s number value = left-machine s (ToSet number value)

-- a malformed one leaves it
pub malformed-machine : (m : Machine) → machine_after_step m Malformed ≡ m
unfolding machine_after_step step_reply buffer_after_step words_after_step
malformed-machine m = refl

-- ---- any records, from any system

calls_are : (s : System) (cs : List Command) → CallsAre s cs (events_of s (asks_of cs))
unfolding CallsAre asks_of events_of call_of call_on event_of
calls_are s [] = tt
calls_are s (Serve a ∷ cs) = (refl, calls_are (next s (ToAccess a)) cs)
calls_are s (Store index value ∷ cs) = (refl, calls_are (next s (ToStore (record { index = index; value = value }))) cs)
calls_are s (Set number value ∷ cs) = (refl, calls_are (next s (ToSet number value)) cs)
calls_are s (Malformed ∷ cs) = calls_are s cs

-- one line, and those of the records behind it
line-then : (m m' : Machine) (number : ℕ) (c : Command) (cs : List Command) → machine_after_step m c ≡ m' → {text : List ℕ}
    → lines_of m' (suc number) cs ≡ text → lines_of m number (c ∷ cs) ≡ line_of number (step_reply m c) ++ text
unfolding lines_of
line-then m m' number c cs e h =
    ap (λ (x : Machine). line_of number (step_reply m c) ++ lines_of x (suc number) cs) e
    ∙ ap (λ (t : List ℕ). line_of number (step_reply m c) ++ t) h

lines_are : (s : System) (number : ℕ) (cs : List Command) → lines_of s.machine number cs ≡ text_of number cs (events_of s (asks_of cs))
unfolding lines_of text_of asks_of events_of call_of call_on event_of step_reply line_of
lines_are s number [] = refl
lines_are s number (Serve a ∷ cs) =
    line-then s.machine _ number (Serve a) cs (served-machine s a) (lines_are (next s (ToAccess a)) (suc number) cs)
lines_are s number (Store index value ∷ cs) =
    line-then s.machine _ number (Store index value) cs (stored-machine s index value)
    (lines_are (next s (ToStore (record { index = index; value = value }))) (suc number) cs)
lines_are s number (Set n value ∷ cs) =
    line-then s.machine _ number (Set n value) cs (set-machine s n value) (lines_are (next s (ToSet n value)) (suc number) cs)
lines_are s number (Malformed ∷ cs) =
    line-then s.machine _ number Malformed cs (malformed-machine s.machine) (lines_are s (suc number) cs)

pub machine-is : (s : System) (cs : List Command) → machine_after s.machine cs ≡ (system_after_all s (events_of s (asks_of cs))).machine
unfolding machine_after system_after_all asks_of events_of call_of
machine-is s [] = refl
machine-is s (Serve a ∷ cs) =
    ap (λ (m : Machine). machine_after m cs) (served-machine s a) ∙ machine-is (next s (ToAccess a)) cs
machine-is s (Store index value ∷ cs) =
    ap (λ (m : Machine). machine_after m cs) (stored-machine s index value) ∙ machine-is (next s (ToStore (record { index = index; value = value }))) cs
machine-is s (Set n value ∷ cs) =
    ap (λ (m : Machine). machine_after m cs) (set-machine s n value) ∙ machine-is (next s (ToSet n value)) cs
machine-is s (Malformed ∷ cs) = ap (λ (m : Machine). machine_after m cs) (malformed-machine s.machine) ∙ machine-is s cs

pub none-stray : (cs : List Command) → StraysRefused (asks_of cs)
unfolding StraysRefused asks_of
none-stray [] = tt
none-stray (Serve a ∷ cs) = none-stray cs
none-stray (Store index value ∷ cs) = none-stray cs
none-stray (Set n value ∷ cs) = none-stray cs
none-stray (Malformed ∷ cs) = none-stray cs

-- ---- from the start of a trace

pub started : (lent : Buffer) → buffer_fits lent ≡ true → start_machine lent ≡ (trace_system lent).machine
unfolding start_machine trace_system begun start_reply started_buffer start_refusal refuse_unless by_refusal
started lent f = rw f

words-fit : tables_fit (replicate 16384 0) ≡ true
unfolding tables_fit length_fits
words-fit = refl

pub records-hold : (lent : Buffer) → buffer_fits lent ≡ true → (cs : List Command)
    → HoldsThroughout (trace_system lent) Start (record_events lent cs)
unfolding trace_system record_events
records-hold lent f cs = of-every-list lent (replicate 16384 0) f words-fit (asks_of cs) (none-stray cs)

pub traces-are-sequences : TracesAreSequences
unfolding trace_text trace_events record_events
traces-are-sequences lent input f = record {
  calls_are = calls_are (trace_system lent) (commands_of input);
  handed = asked (trace_system lent) (asks_of (commands_of input)) (none-stray (commands_of input));
  holds = records-hold lent f (commands_of input);
  text-is = ap (λ (m : Machine). lines_of m 0 (commands_of input)) (started lent f) ∙ lines_are (trace_system lent) 0 (commands_of input);
  machine-is = ap (λ (m : Machine). machine_after m (commands_of input)) (started lent f) ∙ machine-is (trace_system lent) (commands_of input);
}
