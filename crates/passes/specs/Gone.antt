-- A leaf that a pass visits is gone within two passes.
use Rattle.std.specs.Prelude.{ℕ, ◌+◌, ◌≤◌, ◌<◌, ◌≡◌, true, false, List, get_or}
use Rattle.runs.specs.Bits.{with_flag}
use Rattle.entry.specs.Address.{PAGES}
use Rattle.page_table.specs.Words.{present, leaf_valid, leaf_pfn}
use Rattle.page_table.specs.Walk.{walk_tree, stop_at}
use Rattle.page_table.specs.declared.Found.{Found}
use Rattle.page_table.specs.declared.Walk.TheVariants.{Leaf, Absent}
use Rattle.slots.specs.Buffer.{Buffer}
use Rattle.store.specs.Machine.{Machine}
use Rattle.heap.specs.declared.Pool.{Pool}
use Rattle.collector.specs.Collect.{collect_refusal, CollectGives}
use Rattle.collector.specs.declared.Collected.{Collected}

-- an accepted pass, by the promise of collect
pub record Pass (m : Machine) (p : Pool) (id : ℕ) (answer : Collected) (buffer-after : Buffer) (words-after : List ℕ) : Type 0 where
  pub made : CollectGives m p id answer buffer-after words-after
  pub accepted : collect_refusal m p id ≡ 0

-- the page is gone from the own tree: its word is not present, and its walk is absent at level 3
pub record Gone (words : List ℕ) (id vpn : ℕ) (f : Found) : Type 0 where
  pub not-present : present (get_or words f.index 0) ≡ false
  pub walk-absent : walk_tree words vpn false id ≡ Absent (stop_at false 0)

-- what two passes make of a page's leaf: `after` the first and `later`, after the second
pub record GoneIn (after later : List ℕ) (id vpn : ℕ) (f : Found) : Type 0 where
  -- "valid 1 becomes 0, valid 0 loses its present bit": that bit alone
  pub valid-cleared : leaf_valid f.word ≡ true → get_or after f.index 0 ≡ with_flag false 30 f.word
  pub present-cleared : leaf_valid f.word ≡ false → get_or after f.index 0 ≡ with_flag false 31 f.word
  pub gone-at-once : leaf_valid f.word ≡ false → Gone after id vpn f
  pub gone-later : Gone later id vpn f

-- "With no other store from one accepted pass to the next for the same identification, pool and tables, that leaf is gone within two
-- passes." The words are those that the first pass left; registers, buffer and the pool's bits may have changed.
unfoldable pub GoneInTwoPasses : Type 0
GoneInTwoPasses =
    (m next : Machine) (p q : Pool) (id : ℕ) (one two : Collected) (buffer₁ buffer₂ : Buffer) (words₁ words₂ : List ℕ)
    → Pass m p id one buffer₁ words₁
    → next.words ≡ words₁ → q.first ≡ p.first → q.size ≡ p.size
    → Pass next q id two buffer₂ words₂
    → (vpn : ℕ) (f : Found) → vpn < PAGES → walk_tree m.words vpn false id ≡ Leaf f
    → p.first ≤ leaf_pfn f.word → leaf_pfn f.word < p.first + p.size
    → GoneIn words₁ words₂ id vpn f
