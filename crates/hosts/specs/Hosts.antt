-- A C host's calls from a start on are a sequence of which demand 3 speaks.
use Rattle.std.specs.Prelude.{ℕ, ◌≡◌, true, false, cond, List, [], ◌∷◌}
use Rattle.registers.specs.declared.Access.{Access}
use Rattle.control.specs.Starting.{start_reply, started_buffer}
use Rattle.table_bytes.specs.TableBytes.{words_of}
use Rattle.mmu_c.specs.Runs.{buffer_of, tables_taken}
use Rattle.mmu_c.specs.Answers.{reply_answer}
use Rattle.mmu_c.specs.RawAccess.{raw_refusal, RawAccessGives}
use Rattle.mmu_c.specs.Start.{start_refusal, StartGives}
use Rattle.sequence.specs.Calls.{Event}
use Rattle.sequence.specs.Asks.{event_of}
use Rattle.sequence.specs.Systems.{System, begun, system_after}
use Rattle.sequence.specs.Systems.Moment.{Start}
use Rattle.sequence.specs.Demand3.{HandedThroughout, HoldsThroughout}
use Rattle.sequence.specs.Moments.{system_after_all}
use Rattle.hosts.specs.Bytes.{Bytes, machine_in}
use Rattle.hosts.specs.HostCalls.{HostCall, host_accepts, right_lengths, Typed, handed_bytes, HostPromise, call_in, LeftAlone}
use Rattle.hosts.specs.RawAccess.{RawLeftAlone}

-- a call, the answer that it gave, and the bytes at its end
pub record HostEvent : Type 0 where
  pub call : HostCall
  pub answer : ℕ
  pub after : Bytes

-- a raw access with what it was handed, the answer that it gave, and the registers' bytes at its end
pub record RawEvent : Type 0 where
  pub registers : List ℕ
  pub buffer : List ℕ
  pub access : Access
  pub answer : ℕ
  pub after : List ℕ

-- what a host does: a call, or a raw access that is refused. An accepted raw access is in no such list.
pub data HostStep : Type 0 where
  Called : (e : HostEvent) → HostStep
  RawRefused : (r : RawEvent) → HostStep

-- the bytes as the start or the last accepted call left them
unfoldable pub bytes_after : Bytes → HostEvent → Bytes
bytes_after now e = cond (host_accepts e.call) e.after now

unfoldable pub bytes_after_all : Bytes → List HostStep → Bytes
bytes_after_all now [] = now
bytes_after_all now (Called e ∷ es) = bytes_after_all (bytes_after now e) es
bytes_after_all now (RawRefused r ∷ es) = bytes_after_all now es

-- each accepted call is handed the bytes that the start or the last accepted call left; a refused one may be handed anything. Each keeps
-- the promise of its own contract.
pub record HostHanded (now : Bytes) (e : HostEvent) : Type 0 where
  pub same_bytes : host_accepts e.call ≡ true → handed_bytes now e.call ≡ now
  pub promised : HostPromise now e.call e.answer e.after
  pub typed : Typed e.call

pub record RawHanded (r : RawEvent) : Type 0 where
  pub is-refused : raw_refusal r.registers r.buffer r.access ≡ 0 → ⊥
  pub promised : RawAccessGives r.registers r.buffer r.access r.answer r.after

unfoldable pub HostThroughout : Bytes → List HostStep → Type 0
HostThroughout now [] = Unit {0}
HostThroughout now (Called e ∷ es) = HostHanded now e × HostThroughout (bytes_after now e) es
HostThroughout now (RawRefused r ∷ es) = RawHanded r × HostThroughout now es

-- the unit's event of a call that has right lengths, and the system after it; a call with a wrong length is no event, nor is a refused
-- raw access
unfoldable pub unit_event : System → HostEvent → Event
unit_event s e = event_of s.machine (call_in e.call)

unfoldable pub system_after_call : System → HostEvent → System
system_after_call s e = cond (right_lengths e.call) (system_after s (unit_event s e)) s

unfoldable pub host_events : System → List HostStep → List Event
host_events s [] = []
host_events s (Called e ∷ es) =
    cond (right_lengths e.call) (unit_event s e ∷ host_events (system_after_call s e) es) (host_events (system_after_call s e) es)
host_events s (RawRefused r ∷ es) = host_events s es

-- A call with right lengths answers its event's reply. One with a wrong length answers its number and leaves every byte, as a refused raw
-- access does. And the bytes hold the machine of the moment after it.
pub record HostAnswered (now : Bytes) (s : System) (e : HostEvent) : Type 0 where
  pub as-event : right_lengths e.call ≡ true → e.answer ≡ reply_answer (unit_event s e).reply
  pub no-event : right_lengths e.call ≡ false → LeftAlone now e.call e.answer e.after
  pub machine-is : machine_in (bytes_after now e) ≡ (system_after_call s e).machine

unfoldable pub AnsweredThroughout : Bytes → System → List HostStep → Type 0
AnsweredThroughout now s [] = Unit {0}
AnsweredThroughout now s (Called e ∷ es) = HostAnswered now s e × AnsweredThroughout (bytes_after now e) (system_after_call s e) es
AnsweredThroughout now s (RawRefused r ∷ es) =
    RawLeftAlone r.registers r.buffer r.access r.answer r.after × AnsweredThroughout now s es

-- the start over the buffer's bytes, with the words of the tables' bytes
unfoldable pub host_system : (buffer tables : List ℕ) → System
host_system buffer tables = begun (start_reply (buffer_of buffer)) (started_buffer (buffer_of buffer)) (words_of tables)

-- The calls with right lengths are a sequence of which demand 3 speaks; each answers its event's reply, and the last bytes hold the last
-- machine.
pub record HostIsSequence (buffer : List ℕ) (started : Bytes) (es : List HostStep) : Type 0 where
  pub is-sequence : HandedThroughout (host_system buffer started.tables) (host_events (host_system buffer started.tables) es)
  pub demand3-holds : HoldsThroughout (host_system buffer started.tables) Start (host_events (host_system buffer started.tables) es)
  pub starts : machine_in started ≡ (host_system buffer started.tables).machine
  pub answers-are : AnsweredThroughout started (host_system buffer started.tables) es
  pub machine-is : machine_in (bytes_after_all started es)
      ≡ (system_after_all (host_system buffer started.tables) (host_events (host_system buffer started.tables) es)).machine

-- what an accepted start leaves in any bytes, with tables of a length that the calls take
pub record Started (buffer : List ℕ) (started : Bytes) : Type 0 where
  pub registers : List ℕ
  pub answer : ℕ
  pub accepted : start_refusal registers buffer ≡ 0
  pub promised : StartGives registers buffer answer started.registers started.buffer
  pub tables-long : tables_taken started.tables ≡ true

abbrev pub HostsAreSequences : Type 0
HostsAreSequences = (buffer : List ℕ) (started : Bytes) → Started buffer started
    → (es : List HostStep) → HostThroughout started es → HostIsSequence buffer started es
