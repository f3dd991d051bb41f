-- The leaves that a pass visits, page by page, as the request tells them.
use Rattle.std.specs.Prelude.{ℕ, zero, suc, ◌+◌, ◌≡◌, false, cond, List, [], ◌∷◌, ◌++◌}
use Rattle.entry.specs.Address.{PAGES}
use Rattle.page_table.specs.Words.{leaf_pfn}
use Rattle.page_table.specs.Walk.{walk_tree}
use Rattle.page_table.specs.declared.Walk.{Walk}
use Rattle.page_table.specs.declared.Walk.TheVariants.{Leaf, Absent, Broken}
use Rattle.store.specs.Rewrite.{Put}
use Rattle.store.specs.Scan.{put_at}
use Rattle.collector.specs.Visits.{in_pool, pass_leaves}

-- the leaf at the end of a page's walk, if its pfn is in the pool: its index and its word
unfoldable pub page_leaf : (first size : ℕ) → Walk → List Put
page_leaf first size (Leaf f) = cond (in_pool first size (leaf_pfn f.word)) (put_at f.index f.word ∷ []) []
page_leaf first size (Absent s) = []
page_leaf first size (Broken s) = []

-- those of n pages from page a on, "lowest page first"
unfoldable pub page_leaves : (words : List ℕ) (first size id a n : ℕ) → List Put
page_leaves words first size id a zero = []
page_leaves words first size id a (suc n) =
    page_leaves words first size id a n ++ page_leaf first size (walk_tree words (a + n) false id)

-- "A pass visits each present leaf of one identification's own tree whose pfn is in the pool, lowest page first": of all pages
unfoldable pub VisitsPages : Type 0
VisitsPages = (words : List ℕ) (first size id : ℕ) → pass_leaves words first size id ≡ page_leaves words first size id 0 PAGES
