-- A pass changes no walk of another root: what number 12 is for.
use Rattle.std.specs.Prelude.{ℕ, ◌<◌, ◌≡◌, Bool, List}
use Rattle.entry.specs.Address.{PAGES}
use Rattle.page_table.specs.Walk.{walk_tree}
use Rattle.slots.specs.Buffer.{Buffer}
use Rattle.store.specs.Machine.{Machine}
use Rattle.heap.specs.declared.Pool.{Pool}
use Rattle.collector.specs.declared.Collected.{Collected}
use Rattle.passes.specs.Gone.{Pass}

unfoldable pub OthersStay : Type 0
OthersStay =
    (m : Machine) (p : Pool) (id : ℕ) (answer : Collected) (buffer-after : Buffer) (words-after : List ℕ)
    → Pass m p id answer buffer-after words-after
    → (root vpn : ℕ) (global : Bool) → root < 64 → (root ≡ id → ⊥) → vpn < PAGES
    → walk_tree words-after vpn global root ≡ walk_tree m.words vpn global root
