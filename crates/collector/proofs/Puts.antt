-- The stores of a pass as scans of the tables, which is what the laws of scans speak of. Assumes nothing.
use Prim.Native.Nat.{ℕ, zero, suc, ◌+◌, ◌*◌}
use mathlib.Core.Path.{◌≡◌, refl, ap, ap₂, ◌∙◌}
use mathlib.Core.Bool.{Bool, true, false, cond}
use mathlib.Core.List.{List, [], ◌∷◌, ◌++◌}
use lib.ListN.{length, get_or}
use Rattle.page_table.specs.Words.{number}
use Rattle.page_table.specs.Stretches.{directory_word}
use Rattle.page_table.specs.Reads.{leads_on}
use Rattle.store.specs.Rewrite.{Put, written}
use Rattle.store.specs.Scan.{put_at, puts_from}
use Rattle.collector.specs.Visits.{is_visited, aged, table_leaves, tree_leaves, pass_leaves, aged_puts}

-- the stores in one table
unfoldable pub table_puts : (words : List ℕ) (first size t : ℕ) → List Put
table_puts words first size t = puts_from (λ i. is_visited first size (get_or words i 0)) (λ i. aged (get_or words i 0)) (1024 * t) 1024

-- those in the tables of the first n words of a directory
unfoldable pub tree_puts : (words : List ℕ) (first size d n : ℕ) → List Put
tree_puts words first size d zero = []
tree_puts words first size d (suc n) =
    tree_puts words first size d n
    ++ cond (leads_on (length words) 0 (directory_word words d n)) (table_puts words first size (number (directory_word words d n))) []

-- the stores of a scan's leaves are a scan
pub aged-append : (ps qs : List Put) → aged_puts (ps ++ qs) ≡ aged_puts ps ++ aged_puts qs
unfolding aged_puts
aged-append [] qs = refl
aged-append (p ∷ ps) qs = ap (λ (xs : List Put). put_at p.index (aged p.value) ∷ xs) (aged-append ps qs)

pub aged-scan : (p : ℕ → Bool) (v : ℕ → ℕ) (a n : ℕ) → aged_puts (puts_from p v a n) ≡ puts_from p (λ i. aged (v i)) a n
unfolding puts_from aged_puts
aged-scan p v a zero = refl
aged-scan p v a (suc n) =
    aged-append (puts_from p v a n) (cond (p (a + n)) (put_at (a + n) (v (a + n)) ∷ []) [])
    ∙ ap₂ ◌++◌ (aged-scan p v a n) (go (p (a + n)))
  where
    go : (b : Bool) → aged_puts (cond b (put_at (a + n) (v (a + n)) ∷ []) []) ≡ cond b (put_at (a + n) (aged (v (a + n))) ∷ []) []
    go true = refl
    go false = refl

-- the stores at the leaves of a tree
aged-table : (words : List ℕ) (first size t : ℕ) → aged_puts (table_leaves words first size t) ≡ table_puts words first size t
unfolding table_leaves table_puts
aged-table words first size t = aged-scan (λ i. is_visited first size (get_or words i 0)) (λ i. get_or words i 0) (1024 * t) 1024

pub aged-tree : (words : List ℕ) (first size d n : ℕ) → aged_puts (tree_leaves words first size d n) ≡ tree_puts words first size d n
unfolding tree_leaves tree_puts aged_puts
aged-tree words first size d zero = refl
aged-tree words first size d (suc n) =
    aged-append (tree_leaves words first size d n)
    (cond (leads_on (length words) 0 (directory_word words d n)) (table_leaves words first size (number (directory_word words d n))) [])
    ∙ ap₂ ◌++◌ (aged-tree words first size d n) (go (leads_on (length words) 0 (directory_word words d n)))
  where
    go : (b : Bool) → aged_puts (cond b (table_leaves words first size (number (directory_word words d n))) [])
        ≡ cond b (table_puts words first size (number (directory_word words d n))) []
    go true = aged-table words first size (number (directory_word words d n))
    go false = refl

-- the words after a pass's stores
unfoldable pub pass_words : (words : List ℕ) (first size id : ℕ) → List ℕ
pass_words words first size id = written (aged_puts (pass_leaves words first size id)) words
