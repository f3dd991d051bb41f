-- "The end state is that of the same guarded stores made one after another in that order", by the promise of table_store itself.
use Rattle.std.specs.Prelude.{ℕ, ◌+◌, ◌<◌, ◌≡◌, true, List, [], ◌∷◌}
use Rattle.registers.specs.Replies.{refusal_of}
use Rattle.registers.specs.declared.Outcome.TheVariants.{Done}
use Rattle.registers.specs.declared.Reply.{Reply}
use Rattle.slots.specs.Buffer.{Buffer}
use Rattle.store.specs.Machine.{Machine}
use Rattle.store.specs.Rewrite.{Put}
use Rattle.store.specs.Sweep.{kept_at}
use Rattle.store.specs.TableStore.{TableStoreGives}
use Rattle.store.specs.Stores.{done_of}
use Rattle.heap.specs.declared.Pool.{Pool}
use Rattle.collector.specs.Collect.{stores_of}
use Rattle.collector.specs.declared.Collected.{Collected}
use Rattle.passes.specs.Gone.{Pass}

-- what a table store answered, and what it left in the runs that it was lent
pub record Stored : Type 0 where
  pub reply : Reply
  pub buffer : Buffer
  pub words : List ℕ

unfoldable pub left_by : Stored → Machine
left_by s = record { registers = s.reply.registers; buffer = s.buffer; words = s.words }

-- these stores were made in this order, each handed what the last one left, and each kept its promise
unfoldable pub StoresMade : Machine → List Put → List Stored → Type 0
StoresMade m [] [] = Unit {0}
StoresMade m [] (s ∷ ss) = ⊥
StoresMade m (q ∷ qs) [] = ⊥
StoresMade m (q ∷ qs) (s ∷ ss) = TableStoreGives m q s.reply s.buffer s.words × StoresMade (left_by s) qs ss

unfoldable pub last_left : Machine → List Stored → Machine
last_left m [] = m
last_left m (s ∷ ss) = last_left (left_by s) ss

-- none was refused
unfoldable pub NoneRefused : List Stored → Type 0
NoneRefused [] = Unit {0}
NoneRefused (s ∷ ss) = (refusal_of s.reply.outcome ≡ 0) × NoneRefused ss

-- the slots that they emptied, added up
unfoldable pub emptied_by : List Stored → ℕ
emptied_by [] = 0
emptied_by (s ∷ ss) = done_of s.reply.outcome + emptied_by ss

pub record SameAsStores (m : Machine) (answer : Collected) (buffer-after : Buffer) (words-after : List ℕ)
    (stored : List Stored) : Type 0 where
  pub none-refused : NoneRefused stored
  pub same-registers : answer.reply.registers ≡ (last_left m stored).registers
  pub same-buffer : buffer-after ≡ (last_left m stored).buffer
  pub same-words : words-after ≡ (last_left m stored).words
  pub same-emptied : answer.reply.outcome ≡ Done (emptied_by stored)

unfoldable pub PassAsStores : Type 0
PassAsStores =
    (m : Machine) (p : Pool) (id : ℕ) (answer : Collected) (buffer-after : Buffer) (words-after : List ℕ) (stored : List Stored)
    → Pass m p id answer buffer-after words-after → StoresMade m (stores_of m p id) stored
    → SameAsStores m answer buffer-after words-after stored

-- whatever the stores, they can be made so: what is said of all of them is not said of none
unfoldable pub StoresCanBeMade : Type 0
StoresCanBeMade = (m : Machine) (puts : List Put) → (stored : List Stored) × StoresMade m puts stored

-- no stale entry is left: after an accepted pass that made a store, the tables back every slot that is not empty
unfoldable pub NoneStale : Type 0
NoneStale =
    (m : Machine) (p : Pool) (id : ℕ) (answer : Collected) (buffer-after : Buffer) (words-after : List ℕ)
    → Pass m p id answer buffer-after words-after → (stores_of m p id ≡ [] → ⊥)
    → (slot : ℕ) → slot < 64 → kept_at words-after buffer-after slot ≡ true
