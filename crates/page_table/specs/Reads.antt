-- The indexes of the words that a walk reads, and runs that agree there.
use Rattle.std.specs.Prelude.{ℕ, zero, suc, ◌≡◌, Bool, true, cond, not, ◌&&◌, List, [], ◌∷◌, ◌++◌, length, get_or}
use Rattle.page_table.specs.Words.{present}
use Rattle.page_table.specs.Stretches.{stretch_size, broken}
use Rattle.page_table.specs.Walk.{index_below, walk_tree}
use Rattle.page_table.specs.declared.Walk.{Walk}
use Rattle.page_table.specs.declared.Walk.TheVariants.{Leaf, Absent, Broken}

-- a word leads on to the stretch below it
unfoldable pub leads_on : (length levels w : ℕ) → Bool
leads_on length levels w = present w && not (broken length (stretch_size levels) w)

-- of one tree, from the word at an index on
unfoldable pub tree_reads : (words : List ℕ) (vpn levels at : ℕ) → List ℕ
tree_reads words vpn zero at = at ∷ []
tree_reads words vpn (suc n) at =
    at ∷ cond (leads_on (length words) n (get_or words at 0)) (tree_reads words vpn n (index_below vpn n (get_or words at 0))) []

-- the own tree is read where the global tree's walk ends as absent
unfoldable pub own_reads : (global : Walk) (own : List ℕ) → List ℕ
own_reads (Leaf f) own = []
own_reads (Absent s) own = own
own_reads (Broken s) own = []

-- of the walk of a page
unfoldable pub walk_reads : (words : List ℕ) (id vpn : ℕ) → List ℕ
walk_reads words id vpn = tree_reads words vpn 2 63 ++ own_reads (walk_tree words vpn true 63) (tree_reads words vpn 2 id)

-- two runs have the same words at the indexes of a list
unfoldable pub Agree : (indexes a b : List ℕ) → Type 0
Agree [] a b = Unit {0}
Agree (i ∷ is) a b = (get_or a i 0 ≡ get_or b i 0) × Agree is a b
