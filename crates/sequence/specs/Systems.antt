-- The unit beside its reader and its account of the slots, at the start and after each event.
use Rattle.std.specs.Prelude.{ℕ, ◌≡◌, true, false, cond, List}
use Rattle.registers.specs.declared.Reply.{Reply}
use Rattle.slots.specs.Buffer.{Buffer}
use Rattle.store.specs.Machine.{Machine}
use Rattle.sequence.specs.Reader.{Reader, start_reader}
use Rattle.sequence.specs.Account.{Slots, start_slots}
use Rattle.sequence.specs.Effects.{reader_does, slots_do}
use Rattle.sequence.specs.Calls.{Event, accepted, effect_by, left_by}

-- the unit's registers and runs as the start or the last accepted call left them, the reader, and the account of the slots
pub record System : Type 0 where
  pub machine : Machine
  pub reader : Reader
  pub slots : Slots

unfoldable pub begun : (reply : Reply) (buffer : Buffer) (words : List ℕ) → System
begun reply buffer words = record {
  machine = record { registers = reply.registers; buffer = buffer; words = words };
  reader = start_reader words;
  slots = start_slots;
}

-- reader and account are told the call's effect; "a refused call changes nothing"
unfoldable pub system_after : System → Event → System
system_after s e =
    cond (accepted e.call)
    (record {
      machine = left_by e;
      reader = reader_does s.reader (effect_by e.call);
      slots = slots_do s.reader s.slots (effect_by e.call);
    })
    s

-- "at the start and after each call"
pub data Moment : Type 0 where
  Start : Moment
  After : (before : System) (event : Event) → Moment

-- what is asserted of an accepted, and of a refused call
unfoldable pub IfAccepted : (System → Event → Type 0) → Moment → Type 0
IfAccepted P Start = Unit {0}
IfAccepted P (After s e) = accepted e.call ≡ true → P s e

unfoldable pub IfRefused : (System → Event → Type 0) → Moment → Type 0
IfRefused P Start = Unit {0}
IfRefused P (After s e) = accepted e.call ≡ false → P s e
