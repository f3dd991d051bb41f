-- Where a walk stopped: the tree, and the level by the words that it read.
use Rattle.std.specs.Prelude.{ℕ, ◌≡◌, Bool, true, false, cond, List, length}
use Rattle.page_table.specs.Walk.{walk_tree, walk_page}
use Rattle.page_table.specs.Reads.{tree_reads}
use Rattle.page_table.specs.declared.Stop.{Stop}
use Rattle.page_table.specs.declared.Walk.{Walk}
use Rattle.page_table.specs.declared.Walk.TheVariants.{Leaf, Absent, Broken}

unfoldable pub is_absent : Walk → Bool
is_absent (Leaf f) = false
is_absent (Absent s) = true
is_absent (Broken s) = false

-- "which tree and which level stopped it: root 1, directory 2, leaf 3"
pub record StopsAt (words : List ℕ) (id vpn : ℕ) (answer : Walk) (s : Stop) : Type 0 where
  -- the walk of the tree that the stop names gave the answer
  pub tree_is : walk_tree words vpn s.global (cond s.global 63 id) ≡ answer
  -- the own tree decides where the global one is absent
  pub own-after-global : s.global ≡ false → is_absent (walk_tree words vpn true 63) ≡ true
  -- the level is the number of words that were read of that tree
  pub level-is : s.level ≡ length (tree_reads words vpn 2 (cond s.global 63 id))

-- so of an answer without a leaf
unfoldable pub StopIsTrue : (words : List ℕ) (id vpn : ℕ) (answer : Walk) → Type 0
StopIsTrue words id vpn (Leaf f) = Unit {0}
StopIsTrue words id vpn (Absent s) = StopsAt words id vpn (Absent s) s
StopIsTrue words id vpn (Broken s) = StopsAt words id vpn (Broken s) s

abbrev pub WalkStops : Type 0
WalkStops = (words : List ℕ) (id vpn : ℕ) → StopIsTrue words id vpn (walk_page words id vpn)
