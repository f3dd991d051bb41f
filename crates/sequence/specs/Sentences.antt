-- What is asserted of an accepted event, of a refused one, of a slot, and of a machine in service.
use Rattle.std.specs.Prelude.{ℕ, ◌≤◌, ◌≡◌, true}
use Rattle.entry.specs.Entry.{unpack, pack}
use Rattle.entry.specs.declared.Entry.{Entry}
use Rattle.registers.specs.Fields.{registers_fit}
use Rattle.registers.specs.Replies.{refused}
use Rattle.page_table.specs.Stretches.{tables_fit}
use Rattle.slots.specs.Buffer.{Buffer, buffer_fits}
use Rattle.store.specs.Machine.{Machine}
use Rattle.mmu.specs.ServedAccess.{missed, first_try}
use Rattle.sequence.specs.Account.{try_misses}
use Rattle.sequence.specs.Effects.{Effect, AnswerOwed, CountOwed, loads_owed}
use Rattle.sequence.specs.Effects.Effect.{Keep, Serve, Rewrite, Set}
use Rattle.sequence.specs.Calls.{Event, refusal, effect_by, handed, left_by}
use Rattle.sequence.specs.Requests.{Request, own_refusal}
use Rattle.sequence.specs.Calls.{call_on}
use Rattle.sequence.specs.Systems.{System}

-- an accepted call gave the answer that its effect owes: an access the reader's
unfoldable pub AnsweredAsReader : System → Event → Type 0
AnsweredAsReader s e = AnswerOwed s.reader (effect_by e.call) e.reply.outcome

-- an accepted call gave the count that its effect owes: a store the slots that the account emptied
unfoldable pub Counted : System → Event → Type 0
Counted s e = CountOwed s.reader s.slots (effect_by e.call) e.reply.outcome

-- the account tells a first try's miss as the unit's own first try does
unfoldable pub FirstTryAgrees : System → Effect → Type 0
FirstTryAgrees s Keep = Unit {0}
FirstTryAgrees s (Serve a) = missed (first_try s.machine a) ≡ try_misses s.reader.settings s.slots a
FirstTryAgrees s (Rewrite gs) = Unit {0}
FirstTryAgrees s (Set number value) = Unit {0}

-- where an access loads no entry, the buffer stays
unfoldable pub NoneStored : System → Effect → (after : Buffer) → Type 0
NoneStored s Keep after = Unit {0}
NoneStored s (Serve a) after = loads_owed s.reader s.slots (Serve a) ≡ 0 → after ≡ s.machine.buffer
NoneStored s (Rewrite gs) after = Unit {0}
NoneStored s (Set number value) after = Unit {0}

-- an accepted call loaded and counted the entries that its effect owes
pub record Loaded (s : System) (e : Event) : Type 0 where
  pub first-try : FirstTryAgrees s (effect_by e.call)
  pub loads-are : e.reply.loads ≡ loads_owed s.reader s.slots (effect_by e.call)
  pub else-none : NoneStored s (effect_by e.call) e.buffer

-- a refused call answered its number, count 0 and the registers that it was handed, and left what it was handed
pub record RefusalHasNoEffect (s : System) (e : Event) : Type 0 where
  pub reply-is : e.reply ≡ refused (handed s.machine e.call).registers (refusal e.call)
  pub untouched : left_by e ≡ handed s.machine e.call

-- the 44 bits of a slot are the number of these fields, and these are its fields
pub record SlotIs (e : ℕ) (f : Entry) : Type 0 where
  pub bits_are : e ≡ pack f
  pub fields-are : unpack e ≡ f

-- every call can be made on this machine
pub record InService (m : Machine) : Type 0 where
  pub registers-fit : registers_fit m.registers ≡ true
  pub buffer-fits : buffer_fits m.buffer ≡ true
  pub words-fit : tables_fit m.words ≡ true
  pub test-off : m.registers.test ≡ 0
  pub context-served : m.registers.context ≤ 62
  -- a call handed this machine is refused only for its own arguments
  pub own-refusals : (q : Request) → refusal (call_on m q) ≡ own_refusal m.words q
