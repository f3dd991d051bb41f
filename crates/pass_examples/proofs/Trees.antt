-- What a pass over each tree visits, and whether the tree stands by itself: computed from the definitions. Assumes nothing.
use mathlib.Core.Path.{◌≡◌, refl}
use mathlib.Core.Bool.{true, false}
use mathlib.Core.List.{[], ◌∷◌}
use Rattle.runs.specs.Counts.{any}
use Rattle.page_table.specs.Words.{present, reserved, number, leaf_pfn}
use Rattle.page_table.specs.Stretches.{length_fits, tables_fit, stretch_size, directory_word, inside, broken}
use Rattle.page_table.specs.Reads.{leads_on}
use Rattle.reach.specs.Reach.{leads_to}
use Rattle.store.specs.Scan.{put_at, puts_from}
use Rattle.trees.specs.Trees.{names_table, also_named, has_broken, names_twice, overlaps, shares_table, meets, meets_root, met, apart, tree_fits}
use Rattle.collector.specs.Visits.{in_pool, is_visited, table_leaves, tree_leaves, pass_leaves}
use Rattle.pass_examples.specs.Scene.{tree, pages, three-pages, frame-twice, two-roots, own-table}

-- ---- the runs fit

pub three-fit : tables_fit three-pages ≡ true
unfolding tables_fit length_fits three-pages pages tree
three-fit = refl

pub twice-fit : tables_fit frame-twice ≡ true
unfolding tables_fit length_fits frame-twice pages tree
twice-fit = refl

pub roots-fit : tables_fit two-roots ≡ true
unfolding tables_fit length_fits two-roots tree
roots-fit = refl

pub own-fit : tables_fit own-table ≡ true
unfolding tables_fit length_fits own-table
own-fit = refl

-- ---- what is visited

pub visits : pass_leaves three-pages 100 3 5 ≡ put_at 1024 0xDFF80064 ∷ put_at 1025 0x90000065 ∷ []
unfolding pass_leaves tree_leaves table_leaves puts_from is_visited in_pool leads_on present broken stretch_size inside reserved number
    directory_word leaf_pfn three-pages pages tree
visits = refl

pub visits-twice : pass_leaves frame-twice 100 3 5 ≡ put_at 1024 0xDFF80064 ∷ put_at 1025 0x90000065 ∷ put_at 2047 0xD0000064 ∷ []
unfolding pass_leaves tree_leaves table_leaves puts_from is_visited in_pool leads_on present broken stretch_size inside reserved number
    directory_word leaf_pfn frame-twice pages tree
visits-twice = refl

pub visits-none : pass_leaves three-pages 100 3 4 ≡ []
unfolding pass_leaves leads_on present three-pages pages tree
visits-none = refl

-- ---- whether it stands by itself

pub stands : tree_fits three-pages 5 ≡ true
unfolding tree_fits apart has_broken names_twice overlaps met meets_root meets shares_table also_named names_table leads_to any leads_on present
    broken stretch_size inside reserved number directory_word three-pages pages tree
stands = refl

pub no-tree-stands : tree_fits three-pages 4 ≡ true
unfolding tree_fits present three-pages pages tree
no-tree-stands = refl

pub lies-in-its-own : tree_fits own-table 5 ≡ false
unfolding tree_fits apart has_broken names_twice overlaps also_named names_table leads_to any leads_on present broken stretch_size inside reserved
    number directory_word own-table
lies-in-its-own = refl

pub is_shared : tree_fits two-roots 5 ≡ false
unfolding tree_fits apart has_broken names_twice overlaps met meets_root meets shares_table also_named names_table leads_to any leads_on present
    broken stretch_size inside reserved number directory_word two-roots tree
is_shared = refl
