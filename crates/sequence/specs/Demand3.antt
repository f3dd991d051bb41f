-- Demand 3: what holds at the start and after each call of any sequence.
use Rattle.std.specs.Prelude.{ℕ, ◌≤◌, ◌<◌, ◌≡◌, true, List, [], ◌∷◌}
use Rattle.entry.specs.Address.{vpn_of}
use Rattle.registers.specs.declared.Reply.{Reply}
use Rattle.page_table.specs.Stretches.{tables_fit}
use Rattle.slots.specs.Buffer.{Buffer, buffer_fits, slot_at}
use Rattle.tlb.specs.Search.{hit_count}
use Rattle.access.specs.Exceptions.{inv_exc}
use Rattle.store.specs.Machine.{Machine}
use Rattle.control.specs.Starting.{StartGives}
use Rattle.sequence.specs.Reader.{settings_of}
use Rattle.sequence.specs.Calls.{Event, accepted, handed, Promised}
use Rattle.sequence.specs.Systems.{System, begun, system_after, Moment, IfAccepted, IfRefused}
use Rattle.sequence.specs.Systems.Moment.{Start, After}
use Rattle.sequence.specs.Sentences.{AnsweredAsReader, Counted, Loaded, RefusalHasNoEffect, SlotIs, InService}

pub record Holds (s : System) (at : Moment) : Type 0 where
  -- "No more than one entry hits any address under any identification from 0 to 62, under any setting of CTRL's three bits."
  pub at-most-one-hit : (address id ctrl : ℕ) → id ≤ 62 → hit_count s.machine.buffer (inv_exc ctrl) id (vpn_of address) ≤ 1
  -- "The table words and guarded settings equal those of document 01's reader, who sees the same calls and has no buffer."
  pub same-words : s.machine.words ≡ s.reader.words
  pub same-settings : settings_of s.machine.registers ≡ s.reader.settings
  -- "Each accepted access gave the address or fault value that the reader gets."
  pub same_answer : IfAccepted AnsweredAsReader at
  -- "It loaded and counted one entry exactly when its first try missed and the reader's walk found a leaf, else none."
  pub right-loads : IfAccepted Loaded at
  -- "Each slot's 44 bits are those that document 01's loads and sweeps at these calls, begun with every slot empty, leave there."
  pub same-slots : (slot : ℕ) → slot < 64 → SlotIs (slot_at s.machine.buffer slot) (s.slots slot)
  -- a store answered the number of slots that the account emptied, a guarded setting 0
  pub right-count : IfAccepted Counted at
  -- demand 1: a refused call answers its number, count 0 and the registers that it was handed, and alters no lent number
  pub refusal-has-no-effect : IfRefused RefusalHasNoEffect at
  -- the unit stays in service
  pub in-service : InService s.machine

unfoldable pub HoldsThroughout : System → Moment → List Event → Type 0
HoldsThroughout s at [] = Holds s at
HoldsThroughout s at (e ∷ es) = Holds s at × HoldsThroughout (system_after s e) (After s e) es

-- "Each accepted call is handed the registers as the start or the last accepted call left them and .. the same whole runs"; a refused call
-- may be handed anything. Each call keeps the promise of its contract.
pub record Handed (m : Machine) (e : Event) : Type 0 where
  pub same-machine : accepted e.call ≡ true → handed m e.call ≡ m
  pub promised : Promised m e

unfoldable pub HandedThroughout : System → List Event → Type 0
HandedThroughout s [] = Unit {0}
HandedThroughout s (e ∷ es) = Handed s.machine e × HandedThroughout (system_after s e) es

-- "Begin at the start state with page tables of any allowed size and content. Take any sequence of these calls, refused ones included."
unfoldable pub Demand3 : Type 0
Demand3 =
    (lent buffer : Buffer) (reply : Reply) (words : List ℕ) → buffer_fits lent ≡ true → StartGives lent buffer reply → tables_fit words ≡ true
    → (events : List Event) → HandedThroughout (begun reply buffer words) events
    → HoldsThroughout (begun reply buffer words) Start events
