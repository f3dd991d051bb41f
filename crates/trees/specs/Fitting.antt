-- Number 12, as far as it speaks of directories and tables, word for word: what it asks of the words of a tree.
use Rattle.std.specs.Prelude.{ℕ, ◌/◌, ◌<◌, ◌≡◌, ◌⊎◌, true, false, List, length, get_or}
use Rattle.page_table.specs.Words.{present, number}
use Rattle.page_table.specs.Stretches.{directory_word}
use Rattle.page_table.specs.Reads.{leads_on}
use Rattle.trees.specs.Trees.{tree_fits}

-- "Directory d is words 512d to 512d+511; table t is words 1024t to 1024t+1023."
-- Index i lies in directory d, or in a table that one of its words leads on to: such a word is present and not broken.
unfoldable pub LiesBelow : (words : List ℕ) (d i : ℕ) → Type 0
LiesBelow words d i =
    (i / 512 ≡ d)
    ⊎ ((j : ℕ) × (j < 512) × (leads_on (length words) 0 (directory_word words d j) ≡ true) × (i / 1024 ≡ number (directory_word words d j)))

-- index i lies in a stretch that root r reaches
unfoldable pub Reaches : (words : List ℕ) (r i : ℕ) → Type 0
Reaches words r i = (leads_on (length words) 1 (get_or words r 0) ≡ true) × LiesBelow words (number (get_or words r 0)) i

-- the tree of an identification whose root names directory d; each part denies the words that stand over it
pub record Stands (words : List ℕ) (id d : ℕ) : Type 0 where
  -- "its root or a directory word is broken"
  pub root : leads_on (length words) 1 (get_or words id 0) ≡ true
  pub sound : (j : ℕ) → j < 512 → present (directory_word words d j) ≡ true → leads_on (length words) 0 (directory_word words d j) ≡ true
  -- "two present directory words of this tree name one table"
  pub distinct : (j k : ℕ) → j < 512 → k < 512 → present (directory_word words d j) ≡ true → present (directory_word words d k) ≡ true
      → number (directory_word words d j) ≡ number (directory_word words d k) → j ≡ k
  -- "its directory and tables overlap": no index i lies in the directory and in the table of a present word
  pub beside : (i j : ℕ) → j < 512 → present (directory_word words d j) ≡ true
      → i / 512 ≡ d → i / 1024 ≡ number (directory_word words d j) → ⊥
  -- "a word of them lies in a stretch another root reaches": the 63 others
  pub alone : (r i : ℕ) → r < 64 → (r ≡ id → ⊥) → LiesBelow words d i → Reaches words r i → ⊥

-- the code's test is that: the root is absent, or its tree stands by itself
unfoldable pub TreeRight : (words : List ℕ) (id : ℕ) → Type 0
TreeRight words id = (present (get_or words id 0) ≡ false) ⊎ Stands words id (number (get_or words id 0))

unfoldable pub FitsMeans : Type 0
FitsMeans = (words : List ℕ) (id : ℕ) → (tree_fits words id ≡ true → TreeRight words id) × (TreeRight words id → tree_fits words id ≡ true)
