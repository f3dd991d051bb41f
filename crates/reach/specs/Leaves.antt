-- Leaf words: the words at which walks end as their leaf.
use Rattle.std.specs.Prelude.{ℕ, ◌/◌, ◌≡◌, Bool, false, ◌&&◌, List, length, get_or, eqb}
use Rattle.runs.specs.Counts.{any, count}
use Rattle.entry.specs.Address.{PAGES}
use Rattle.page_table.specs.Words.{present}
use Rattle.page_table.specs.Walk.{walk_tree}
use Rattle.page_table.specs.declared.Walk.{Walk}
use Rattle.page_table.specs.declared.Walk.TheVariants.{Leaf, Absent, Broken}
use Rattle.reach.specs.Reach.{table_reached}

-- a walk ends at the word of an index as its leaf
unfoldable pub ends_at : Walk → (index : ℕ) → Bool
ends_at (Leaf f) index = eqb f.index index
ends_at (Absent s) index = false
ends_at (Broken s) index = false

-- "A present word counts if the walk of some page from a root 0 to 63 ends at it as its leaf." That is the walk of one tree, whose leaf is
-- always a present word. There are 524,288 pages.
unfoldable pub is_leaf_word : (words : List ℕ) (index : ℕ) → Bool
is_leaf_word words index = any (λ root. any (λ vpn. ends_at (walk_tree words vpn false root) index) PAGES) 64

-- how many leaf words the tables have
unfoldable pub leaf_count : (words : List ℕ) → ℕ
leaf_count words = count (is_leaf_word words) (length words)

-- A word is a leaf word exactly when it is present and stands in a reached table. Table t is words 1024t to 1024t+1023.
abbrev pub LeafWords : Type 0
LeafWords = (words : List ℕ) (index : ℕ) → is_leaf_word words index ≡ present (get_or words index 0) && table_reached words (index / 1024)
