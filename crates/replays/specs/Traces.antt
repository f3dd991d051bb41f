-- The records of a trace are a sequence of which demand 3 speaks, and its text is what the sequence's events answered.
use Rattle.std.specs.Prelude.{ℕ, suc, ◌≡◌, true, List, [], ◌∷◌, ◌++◌, replicate}
use Rattle.registers.specs.Fields.{zero_registers}
use Rattle.registers.specs.Replies.{refused}
use Rattle.slots.specs.Buffer.{Buffer, buffer_fits}
use Rattle.control.specs.Starting.{start_reply, started_buffer}
use Rattle.sequence.specs.Calls.{Event}
use Rattle.sequence.specs.Calls.Call.{ServedAccess, TableStore, GuardedSetting}
use Rattle.sequence.specs.Requests.Request.{ToAccess, ToStore, ToSet}
use Rattle.sequence.specs.Systems.{System, begun, system_after}
use Rattle.sequence.specs.Systems.Moment.{Start}
use Rattle.sequence.specs.Moments.{system_after_all}
use Rattle.sequence.specs.Demand3.{HoldsThroughout, HandedThroughout}
use Rattle.sequence.specs.Asks.{Ask, events_of}
use Rattle.sequence.specs.Asks.Ask.{Now}
use Rattle.line.specs.Lines.{line_of}
use Rattle.trace.specs.Commands.{commands_of}
use Rattle.trace.specs.Traces.{start_machine, machine_after, trace_text}
use Rattle.trace.specs.declared.Command.{Command}
use Rattle.trace.specs.declared.Command.TheVariants.{Serve, Store, Set, Malformed}

-- what records ask, each of the machine of its moment; a malformed one asks nothing
unfoldable pub asks_of : List Command → List Ask
asks_of [] = []
asks_of (Serve a ∷ cs) = Now (ToAccess a) ∷ asks_of cs
asks_of (Store index value ∷ cs) = Now (ToStore (record { index = index; value = value })) ∷ asks_of cs
asks_of (Set number value ∷ cs) = Now (ToSet number value) ∷ asks_of cs
asks_of (Malformed ∷ cs) = asks_of cs

-- the start of a trace
unfoldable pub trace_system : (lent : Buffer) → System
trace_system lent = begun (start_reply lent) (started_buffer lent) (replicate 16384 0)

-- the events of records from there on, and of an input's
unfoldable pub record_events : (lent : Buffer) → List Command → List Event
record_events lent cs = events_of (trace_system lent) (asks_of cs)

unfoldable pub trace_events : (lent : Buffer) (input : List ℕ) → List Event
trace_events lent input = record_events lent (commands_of input)

-- Each event is of its record's call, which was handed the machine of its moment. A malformed record has no event; every other has one,
-- and no event is left over.
unfoldable pub CallsAre : System → List Command → List Event → Type 0
CallsAre s [] [] = Unit {0}
CallsAre s [] (e ∷ es) = ⊥
CallsAre s (Malformed ∷ cs) es = CallsAre s cs es
CallsAre s (Serve a ∷ cs) [] = ⊥
CallsAre s (Serve a ∷ cs) (e ∷ es) = (e.call ≡ ServedAccess s.machine a) × CallsAre (system_after s e) cs es
CallsAre s (Store index value ∷ cs) [] = ⊥
CallsAre s (Store index value ∷ cs) (e ∷ es) =
    (e.call ≡ TableStore s.machine (record { index = index; value = value })) × CallsAre (system_after s e) cs es
CallsAre s (Set number value ∷ cs) [] = ⊥
CallsAre s (Set number value ∷ cs) (e ∷ es) =
    (e.call ≡ GuardedSetting s.machine.registers number value) × CallsAre (system_after s e) cs es

-- a line for each record: what its event replied, and refusal 8 for a malformed one; none where an event is missing, and `CallsAre` says
-- that none is
unfoldable pub text_of : (number : ℕ) → List Command → List Event → List ℕ
text_of number [] es = []
text_of number (Malformed ∷ cs) es = line_of number (refused zero_registers 8) ++ text_of (suc number) cs es
text_of number (Serve a ∷ cs) [] = []
text_of number (Serve a ∷ cs) (e ∷ es) = line_of number e.reply ++ text_of (suc number) cs es
text_of number (Store index value ∷ cs) [] = []
text_of number (Store index value ∷ cs) (e ∷ es) = line_of number e.reply ++ text_of (suc number) cs es
text_of number (Set n value ∷ cs) [] = []
text_of number (Set n value ∷ cs) (e ∷ es) = line_of number e.reply ++ text_of (suc number) cs es

pub record TraceIsSequence (lent : Buffer) (input : List ℕ) : Type 0 where
  pub calls_are : CallsAre (trace_system lent) (commands_of input) (trace_events lent input)
  -- it is such a sequence, and what demand 3 promises holds at the start and after each record
  pub handed : HandedThroughout (trace_system lent) (trace_events lent input)
  pub holds : HoldsThroughout (trace_system lent) Start (trace_events lent input)
  pub text-is : trace_text lent input ≡ text_of 0 (commands_of input) (trace_events lent input)
  pub machine-is : machine_after (start_machine lent) (commands_of input)
      ≡ (system_after_all (trace_system lent) (trace_events lent input)).machine

-- so of every input
abbrev pub TracesAreSequences : Type 0
TracesAreSequences = (lent : Buffer) (input : List ℕ) → buffer_fits lent ≡ true → TraceIsSequence lent input
