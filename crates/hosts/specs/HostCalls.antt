-- The calls of a C host with all that they are handed, and the unit's call that each of them is.
use Rattle.std.specs.Prelude.{ℕ, ◌^◌, ◌≤◌, ◌<◌, ◌≡◌, Bool, true, false, ◌&&◌, List, eqb}
use Rattle.wire.specs.Wire.{AreBytes}
use Rattle.registers.specs.declared.Access.{Access}
use Rattle.store.specs.Rewrite.{Put}
use Rattle.mmu_c.specs.Runs.{registers_of, registers_long, buffer_taken, tables_taken}
use Rattle.mmu_c.specs.Answers.{refusal_answer, reply_answer}
use Rattle.mmu_c.specs.ServedAccess.{served_refusal, ServedAccessGives}
use Rattle.mmu_c.specs.TableStore.{store_refusal, TableStoreGives}
use Rattle.mmu_c.specs.GuardedSetting.{setting_refusal, GuardedSettingGives}
use Rattle.sequence.specs.Calls.{Call, Event, refusal, left_by}
use Rattle.sequence.specs.Calls.Call.{ServedAccess, TableStore, GuardedSetting}
use Rattle.sequence.specs.Asks.{event_of}
use Rattle.hosts.specs.Bytes.{Bytes, machine_in}

-- a guarded setting is handed registers alone
pub data HostCall : Type 0 where
  HostAccess : (given : Bytes) (a : Access) → HostCall
  HostStore : (given : Bytes) (p : Put) → HostCall
  HostSetting : (given : List ℕ) (number value : ℕ) → HostCall

-- the number that a call is refused with; 0 where it is accepted
unfoldable pub host_refusal : HostCall → ℕ
host_refusal (HostAccess given a) = served_refusal given.registers given.buffer given.tables a
host_refusal (HostStore given p) = store_refusal given.registers given.buffer given.tables p.index
host_refusal (HostSetting given number value) = setting_refusal given number value

unfoldable pub host_accepts : HostCall → Bool
host_accepts c = eqb (host_refusal c) 0

-- the runs have lengths that the call takes
unfoldable pub long_right : Bytes → Bool
long_right h = registers_long h.registers && buffer_taken h.buffer && tables_taken h.tables

unfoldable pub right_lengths : HostCall → Bool
right_lengths (HostAccess given a) = long_right given
right_lengths (HostStore given p) = long_right given
right_lengths (HostSetting given number value) = registers_long given

-- what its C types say of a call: the buffer's numbers are bytes, and a word has 32 bits
unfoldable pub Typed : HostCall → Type 0
Typed (HostAccess given a) = AreBytes given.buffer × (a.address < 2 ^ 32)
Typed (HostStore given p) = AreBytes given.buffer × (p.value < 2 ^ 32)
Typed (HostSetting given number value) = Unit {0}

-- the bytes that it was handed; a run that it does not take is the host's
unfoldable pub handed_bytes : Bytes → HostCall → Bytes
handed_bytes now (HostAccess given a) = given
handed_bytes now (HostStore given p) = given
handed_bytes now (HostSetting given number value) = record { registers = given; buffer = now.buffer; tables = now.tables }

-- The promise that the C function's own contract makes of a call. A served access is lent the tables for reading alone, a store the
-- registers; a guarded setting takes registers alone.
unfoldable pub HostPromise : Bytes → HostCall → (answer : ℕ) (after : Bytes) → Type 0
HostPromise now (HostAccess given a) answer after =
    ServedAccessGives given.registers given.buffer given.tables a answer after.registers after.buffer
    × (after.tables ≡ given.tables)
HostPromise now (HostStore given p) answer after =
    TableStoreGives given.registers given.buffer given.tables p answer after.buffer after.tables
    × (after.registers ≡ given.registers)
HostPromise now (HostSetting given number value) answer after =
    GuardedSettingGives given number value answer after.registers × (after.buffer ≡ now.buffer) × (after.tables ≡ now.tables)

-- the unit's call on the machine that the bytes hold
unfoldable pub call_in : HostCall → Call
call_in (HostAccess given a) = ServedAccess (machine_in given) a
call_in (HostStore given p) = TableStore (machine_in given) p
call_in (HostSetting given number value) = GuardedSetting (registers_of given) number value

-- and its event
unfoldable pub event_in : Bytes → HostCall → Event
event_in now c = event_of (machine_in now) (call_in c)

-- A call with right lengths, accepted or refused, is the unit's: the refusal, the answer, and the machine in the bytes at its end.
pub record IsUnitCall (now : Bytes) (c : HostCall) (answer : ℕ) (after : Bytes) : Type 0 where
  pub refusal_is : host_refusal c ≡ refusal (call_in c)
  pub answer-is : answer ≡ reply_answer (event_in now c).reply
  pub machine-is : machine_in after ≡ left_by (event_in now c)

abbrev pub HostCallsAreCalls : Type 0
HostCallsAreCalls = (now : Bytes) (c : HostCall) (answer : ℕ) (after : Bytes) → Typed c → right_lengths c ≡ true
    → HostPromise now c answer after → IsUnitCall now c answer after

-- A refused call, for a length or not, answers its number in bits 56 to 63 and leaves every byte.
pub record LeftAlone (now : Bytes) (c : HostCall) (answer : ℕ) (after : Bytes) : Type 0 where
  pub answer-is : answer ≡ refusal_answer (host_refusal c)
  pub bytes-are : after ≡ handed_bytes now c

abbrev pub RefusedLeaveAll : Type 0
RefusedLeaveAll = (now : Bytes) (c : HostCall) (answer : ℕ) (after : Bytes) → host_accepts c ≡ false
    → HostPromise now c answer after → LeftAlone now c answer after

-- a wrong length is refused, with 1, 2 or 3
abbrev pub WrongLengthsRefused : Type 0
WrongLengthsRefused = (c : HostCall) → right_lengths c ≡ false → (1 ≤ host_refusal c) × (host_refusal c ≤ 3)
