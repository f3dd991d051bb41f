-- Number 12's part on other roots, by words.
use Rattle.std.specs.Prelude.{ℕ, ◌/◌, ◌≡◌, Bool, true, not, ◌&&◌, ◌||◌, List, length, get_or, eqb}
use Rattle.runs.specs.Counts.{any}
use Rattle.page_table.specs.Words.{number}
use Rattle.page_table.specs.Reads.{leads_on}
use Rattle.trees.specs.Trees.{names_table, met}

-- the word at an index lies in a stretch that a root reaches: in its directory, or in a table of that
unfoldable pub lies_in : (words : List ℕ) (root i : ℕ) → Bool
lies_in words root i =
    leads_on (length words) 1 (get_or words root 0)
    && (eqb (number (get_or words root 0)) (i / 512) || names_table words (number (get_or words root 0)) 512 (i / 1024))

-- "a word of them lies in a stretch another root reaches": some index lies in both, exactly where the numbers meet
unfoldable pub MetWords : Type 0
MetWords = (words : List ℕ) (id : ℕ) → leads_on (length words) 1 (get_or words id 0) ≡ true
    → met words id (number (get_or words id 0))
    ≡ any (λ r. not (eqb r id) && any (λ i. lies_in words id i && lies_in words r i) (length words)) 64
