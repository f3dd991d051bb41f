-- The walk of a page, by the index of each word that it reads.
use Rattle.std.specs.Prelude.{ℕ, zero, suc, ◌+◌, ◌-◌, ◌*◌, Bool, true, false, cond, List, length, get_or}
use Rattle.page_table.specs.Words.{present, number}
use Rattle.page_table.specs.Stretches.{stretch_size, index_in, broken}
use Rattle.page_table.specs.declared.Found.{Found}
use Rattle.page_table.specs.declared.Stop.{Stop}
use Rattle.page_table.specs.declared.Walk.{Walk}
use Rattle.page_table.specs.declared.Walk.TheVariants.{Leaf, Absent, Broken}

-- the leaf that stands at an index
unfoldable pub leaf_at : (words : List ℕ) (global : Bool) (at : ℕ) → Found
leaf_at words global at = record { global = global; word = get_or words at 0; index = at }

-- a stop at a word that has so many levels below it: the root is level 1, a directory word 2, a leaf 3
unfoldable pub stop_at : (global : Bool) (levels : ℕ) → Stop
stop_at global levels = record { global = global; level = 3 - levels }

-- the index of the page's word in the stretch that w names, with so many levels below that stretch
unfoldable pub index_below : (vpn levels w : ℕ) → ℕ
index_below vpn levels w = stretch_size levels * number w + index_in levels vpn

-- The walk from the word at an index, with so many levels below it. "A word with present 0 ends the walk as absent, its other bits
-- ignored." A broken word ends it too; any other leads on to the word in its stretch, and the last one is the leaf.
unfoldable pub descend : (words : List ℕ) (vpn : ℕ) (global : Bool) (levels at : ℕ) → Walk
descend words vpn global zero at = cond (present (get_or words at 0)) (Leaf (leaf_at words global at)) (Absent (stop_at global 0))
descend words vpn global (suc n) at =
    cond (present (get_or words at 0))
    (cond (broken (length words) (stretch_size n) (get_or words at 0))
    (Broken (stop_at global (suc n)))
    (descend words vpn global n (index_below vpn n (get_or words at 0))))
    (Absent (stop_at global (suc n)))

-- "The walk goes down three levels: root, the directory .., the table ..": one tree's walk, whose root word stands at the index `root`
unfoldable pub walk_tree : (words : List ℕ) (vpn : ℕ) (global : Bool) (root : ℕ) → Walk
walk_tree words vpn global root = descend words vpn global 2 root

-- "Its leaf gives global 1; absent there means walk the own tree, global 0; broken there ends the walk."
unfoldable pub global_first : Walk → Walk → Walk
global_first (Leaf f) own = Leaf f
global_first (Absent s) own = own
global_first (Broken s) own = Broken s

-- "Words 0 to 62 are the roots of identifications 0 to 62; word 63 is the global root." "The global tree is walked first."
unfoldable pub walk_page : (words : List ℕ) (id vpn : ℕ) → Walk
walk_page words id vpn = global_first (walk_tree words vpn true 63) (walk_tree words vpn false id)
