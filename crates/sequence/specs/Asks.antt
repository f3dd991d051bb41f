-- Sequences of calls as the unit answers them: requests put to the current machine, and stray calls, which were handed anything else.
use Rattle.std.specs.Prelude.{ℕ, ◌≡◌, false, List, [], ◌∷◌}
use Rattle.registers.specs.declared.Outcome.{Outcome}
use Rattle.store.specs.Machine.{Machine}
use Rattle.store.specs.TableStore.{store_reply, buffer_after_store, words_after_store}
use Rattle.control.specs.Setting.{setting_reply}
use Rattle.mmu.specs.ServedAccess.{served_reply, served_buffer}
use Rattle.sequence.specs.Calls.{Call, Event, accepted}
use Rattle.sequence.specs.Calls.Call.{ServedAccess, TableStore, GuardedSetting}
use Rattle.sequence.specs.Requests.{Request}
use Rattle.sequence.specs.Calls.{call_on}
use Rattle.sequence.specs.Systems.{System, system_after}

pub data Ask : Type 0 where
  Now : (q : Request) → Ask
  Stray : (c : Call) → Ask

unfoldable pub call_of : Machine → Ask → Call
call_of m (Now q) = call_on m q
call_of m (Stray c) = c

-- the event of a call: the answer and the runs that its contract promises
unfoldable pub event_of : Machine → Call → Event
event_of m (ServedAccess given a) = record {
  call = ServedAccess given a;
  reply = served_reply given a;
  buffer = served_buffer given a;
  words = given.words;
}
event_of m (TableStore given p) = record {
  call = TableStore given p;
  reply = store_reply given p;
  buffer = buffer_after_store given p;
  words = words_after_store given p;
}
event_of m (GuardedSetting given number value) = record {
  call = GuardedSetting given number value;
  reply = setting_reply given number value;
  buffer = m.buffer;
  words = m.words;
}

unfoldable pub events_of : System → List Ask → List Event
events_of s [] = []
events_of s (q ∷ qs) =
    let e = event_of s.machine (call_of s.machine q) in
    e ∷ events_of (system_after s e) qs

-- every stray call is refused
unfoldable pub StraysRefused : List Ask → Type 0
StraysRefused [] = Unit {0}
StraysRefused (Now q ∷ qs) = StraysRefused qs
StraysRefused (Stray c ∷ qs) = (accepted c ≡ false) × StraysRefused qs

-- an event's outcome and loads: a line of a trace
pub record Line : Type 0 where
  pub outcome : Outcome
  pub loads : ℕ

unfoldable pub lines_of : List Event → List Line
lines_of [] = []
lines_of (e ∷ es) = record { outcome = e.reply.outcome; loads = e.reply.loads } ∷ lines_of es
