-- The calls of a sequence with all that they are handed, the effect of each, and events: a call, its answer and what it left.
use Rattle.std.specs.Prelude.{ℕ, ◌≡◌, Bool, List, eqb}
use Rattle.registers.specs.declared.Access.{Access}
use Rattle.registers.specs.declared.Registers.{Registers}
use Rattle.registers.specs.declared.Reply.{Reply}
use Rattle.slots.specs.Buffer.{Buffer}
use Rattle.store.specs.Machine.{Machine}
use Rattle.store.specs.Rewrite.{Put}
use Rattle.store.specs.TableStore.{store_refusal, TableStoreGives}
use Rattle.control.specs.Setting.{setting_refusal, GuardedSettingGives}
use Rattle.mmu.specs.ServedAccess.{served_refusal, ServedAccessGives}
use Rattle.sequence.specs.Effects.{Effect}
use Rattle.sequence.specs.Requests.{Request, effect_of}
use Rattle.sequence.specs.Requests.Request.{ToAccess, ToStore, ToSet}

-- a guarded setting is handed registers alone
pub data Call : Type 0 where
  ServedAccess : (given : Machine) (a : Access) → Call
  TableStore : (given : Machine) (p : Put) → Call
  GuardedSetting : (given : Registers) (number value : ℕ) → Call

-- the number that a call is refused with; 0 where it is accepted
unfoldable pub refusal : Call → ℕ
refusal (ServedAccess given a) = served_refusal given a
refusal (TableStore given p) = store_refusal given p.index
refusal (GuardedSetting given number value) = setting_refusal given number value

unfoldable pub accepted : Call → Bool
accepted c = eqb (refusal c) 0

-- its own arguments, and what it does by them where it is accepted
unfoldable pub request_of : Call → Request
request_of (ServedAccess given a) = ToAccess a
request_of (TableStore given p) = ToStore p
request_of (GuardedSetting given number value) = ToSet number value

unfoldable pub effect_by : Call → Effect
effect_by c = effect_of (request_of c)

-- what a call was handed; a run that it does not take is the machine's
unfoldable pub handed : Machine → Call → Machine
handed m (ServedAccess given a) = given
handed m (TableStore given p) = given
handed m (GuardedSetting given number value) = record { registers = given; buffer = m.buffer; words = m.words }

-- a call, the answer that it gave, and the runs at its end
pub record Event : Type 0 where
  pub call : Call
  pub reply : Reply
  pub buffer : Buffer
  pub words : List ℕ

-- the registers and runs that it left
unfoldable pub left_by : Event → Machine
left_by e = record { registers = e.reply.registers; buffer = e.buffer; words = e.words }

-- The promise that the function's own contract makes of a call. A served access is lent the table words for reading alone, and a guarded
-- setting takes no run.
unfoldable pub Promise : Machine → Call → (reply : Reply) (buffer : Buffer) (words : List ℕ) → Type 0
Promise m (ServedAccess given a) reply buffer words = ServedAccessGives given a reply buffer × (words ≡ given.words)
Promise m (TableStore given p) reply buffer words = TableStoreGives given p reply buffer words
Promise m (GuardedSetting given number value) reply buffer words =
    GuardedSettingGives given number value reply × (buffer ≡ m.buffer) × (words ≡ m.words)

unfoldable pub Promised : Machine → Event → Type 0
Promised m e = Promise m e.call e.reply e.buffer e.words

-- a request that is handed a machine's registers and runs
unfoldable pub call_on : Machine → Request → Call
call_on m (ToAccess a) = ServedAccess m a
call_on m (ToStore p) = TableStore m p
call_on m (ToSet number value) = GuardedSetting m.registers number value
