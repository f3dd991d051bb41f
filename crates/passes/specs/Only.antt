-- A pass changes the leaves that it visits, and no other word.
use Rattle.std.specs.Prelude.{ℕ, ◌+◌, ◌≤◌, ◌<◌, ◌≡◌, false, List, get_or}
use Rattle.entry.specs.Address.{PAGES}
use Rattle.page_table.specs.Words.{leaf_pfn}
use Rattle.page_table.specs.Walk.{walk_tree}
use Rattle.page_table.specs.declared.Found.{Found}
use Rattle.page_table.specs.declared.Walk.TheVariants.{Leaf}
use Rattle.slots.specs.Buffer.{Buffer}
use Rattle.store.specs.Machine.{Machine}
use Rattle.heap.specs.declared.Pool.{Pool}
use Rattle.collector.specs.declared.Collected.{Collected}
use Rattle.passes.specs.Gone.{Pass}

-- index i is that of a leaf of the own tree whose pfn is in the pool
unfoldable pub IsVisited : (words : List ℕ) → Pool → (id i : ℕ) → Type 0
IsVisited words p id i =
    (vpn : ℕ) × (f : Found) × (vpn < PAGES) × (walk_tree words vpn false id ≡ Leaf f)
    × (p.first ≤ leaf_pfn f.word) × (leaf_pfn f.word < p.first + p.size) × (f.index ≡ i)

unfoldable pub OnlyVisitedChange : Type 0
OnlyVisitedChange =
    (m : Machine) (p : Pool) (id : ℕ) (answer : Collected) (buffer-after : Buffer) (words-after : List ℕ)
    → Pass m p id answer buffer-after words-after → (i : ℕ) → (IsVisited m.words p id i → ⊥)
    → get_or words-after i 0 ≡ get_or m.words i 0
