-- A pass is accepted exactly where none of number 12's grounds holds, its frames told by pages.
use Rattle.std.specs.Prelude.{ℕ, ◌+◌, ◌≤◌, ◌<◌, ◌⊎◌, ◌≡◌, true, false, List, length}
use Rattle.entry.specs.Address.{PAGES}
use Rattle.registers.specs.Fields.{registers_fit}
use Rattle.page_table.specs.Words.{leaf_pfn}
use Rattle.page_table.specs.Stretches.{tables_fit}
use Rattle.page_table.specs.Walk.{walk_tree}
use Rattle.page_table.specs.declared.Found.{Found}
use Rattle.page_table.specs.declared.Walk.TheVariants.{Leaf}
use Rattle.slots.specs.Buffer.{buffer_fits}
use Rattle.store.specs.Machine.{Machine}
use Rattle.heap.specs.Pools.{pool_fits, holds}
use Rattle.heap.specs.declared.Pool.{Pool}
use Rattle.trees.specs.Fitting.{TreeRight}
use Rattle.collector.specs.Collect.{collect_refusal}

-- number 12, as far as it speaks of frames; each part denies the words that stand over it
pub record FramesRight (words : List ℕ) (p : Pool) (id : ℕ) : Type 0 where
  -- "a pool frame is mapped by two of its leaves"
  pub once : (vpn other : ℕ) (f g : Found) → vpn < PAGES → other < PAGES
      → walk_tree words vpn false id ≡ Leaf f → walk_tree words other false id ≡ Leaf g
      → p.first ≤ leaf_pfn f.word → leaf_pfn f.word < p.first + p.size
      → leaf_pfn f.word ≡ leaf_pfn g.word → vpn ≡ other
  -- ".. or by one while not held"
  pub held : (vpn : ℕ) (f : Found) → vpn < PAGES → walk_tree words vpn false id ≡ Leaf f
      → p.first ≤ leaf_pfn f.word → leaf_pfn f.word < p.first + p.size → holds p (leaf_pfn f.word) ≡ true

unfoldable pub AcceptedExactly : Type 0
AcceptedExactly =
    (m : Machine) (p : Pool) (id : ℕ) → length p.bits ≡ 64 → pool_fits p ≡ true → registers_fit m.registers ≡ true
    → buffer_fits m.buffer ≡ true → tables_fit m.words ≡ true → id ≤ 62
    → (collect_refusal m p id ≡ 0 → TreeRight m.words id × FramesRight m.words p id)
    × (TreeRight m.words id → FramesRight m.words p id → collect_refusal m p id ≡ 0)
    × ((collect_refusal m p id ≡ 0) ⊎ (collect_refusal m p id ≡ 12))

-- the numbers before 12, in their order: each where those before it pass
pub record RefusedBefore (m : Machine) (p : Pool) (id : ℕ) : Type 0 where
  pub pool-1 : pool_fits p ≡ false → collect_refusal m p id ≡ 1
  pub registers-1 : pool_fits p ≡ true → registers_fit m.registers ≡ false → collect_refusal m p id ≡ 1
  pub buffer-2 : pool_fits p ≡ true → registers_fit m.registers ≡ true → buffer_fits m.buffer ≡ false → collect_refusal m p id ≡ 2
  pub tables-3 : pool_fits p ≡ true → registers_fit m.registers ≡ true → buffer_fits m.buffer ≡ true → tables_fit m.words ≡ false
      → collect_refusal m p id ≡ 3
  -- "number 5 for an identification above 62"
  pub above-5 : pool_fits p ≡ true → registers_fit m.registers ≡ true → buffer_fits m.buffer ≡ true → tables_fit m.words ≡ true
      → 62 < id → collect_refusal m p id ≡ 5

unfoldable pub RefusedInOrder : Type 0
RefusedInOrder = (m : Machine) (p : Pool) (id : ℕ) → RefusedBefore m p id
