-- What a pass visits, and what it stores there.
use Rattle.std.specs.Prelude.{ℕ, zero, suc, ◌+◌, ◌*◌, Bool, false, cond, ◌&&◌, List, [], ◌∷◌, ◌++◌, length, get_or, leb, ltb}
use Rattle.runs.specs.Bits.{with_flag}
use Rattle.page_table.specs.Words.{present, number, leaf_valid, leaf_pfn}
use Rattle.page_table.specs.Stretches.{directory_word}
use Rattle.page_table.specs.Reads.{leads_on}
use Rattle.store.specs.Rewrite.{Put}
use Rattle.store.specs.Scan.{put_at, puts_from}

-- "whose pfn is in the pool": a first pfn and a size
unfoldable pub in_pool : (first size pfn : ℕ) → Bool
in_pool first size pfn = leb first pfn && ltb pfn (first + size)

-- "each present leaf .. whose pfn is in the pool"
unfoldable pub is_visited : (first size w : ℕ) → Bool
is_visited first size w = present w && in_pool first size (leaf_pfn w)

-- a word one step older: "valid 1 becomes 0, valid 0 loses its present bit"
unfoldable pub aged : (w : ℕ) → ℕ
aged w = cond (leaf_valid w) (with_flag false 30 w) (with_flag false 31 w)

-- the leaves visited in one table: the index and the word of each
unfoldable pub table_leaves : (words : List ℕ) (first size t : ℕ) → List Put
table_leaves words first size t = puts_from (λ i. is_visited first size (get_or words i 0)) (λ i. get_or words i 0) (1024 * t) 1024

-- those in the tables of the first n words of a directory, "lowest page first"
unfoldable pub tree_leaves : (words : List ℕ) (first size d n : ℕ) → List Put
tree_leaves words first size d zero = []
tree_leaves words first size d (suc n) =
    tree_leaves words first size d n
    ++ cond (leads_on (length words) 0 (directory_word words d n)) (table_leaves words first size (number (directory_word words d n))) []

-- those of "one identification's own tree"; an absent root has none
unfoldable pub pass_leaves : (words : List ℕ) (first size id : ℕ) → List Put
pass_leaves words first size id =
    cond (leads_on (length words) 1 (get_or words id 0)) (tree_leaves words first size (number (get_or words id 0)) 512) []

-- the store at each leaf
unfoldable pub aged_puts : List Put → List Put
aged_puts [] = []
aged_puts (q ∷ qs) = put_at q.index (aged q.value) ∷ aged_puts qs
