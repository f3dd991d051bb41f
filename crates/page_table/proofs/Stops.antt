-- Where a walk stopped: the tree, and the level by the words that it read. Assumes nothing.
use Prim.Native.Nat.{ℕ, zero, suc, ◌+◌, ◌-◌, ◌≤◌}
use mathlib.Core.Path.{◌≡◌, refl, sym, ap, ◌∙◌, subst}
use mathlib.Core.Bool.{Bool, true, false, cond, not, ◌&&◌}
use mathlib.Core.List.{List, [], ◌∷◌}
use lib.ListN.{length, get_or}
use native.Mathlib.Omega.{arith}
use Rattle.runs.proofs.Bools.{clash}
use Rattle.page_table.specs.Words.{present}
use Rattle.page_table.specs.Stretches.{stretch_size, broken}
use Rattle.page_table.specs.Walk.{leaf_at, stop_at, index_below, descend, walk_tree, global_first, walk_page}
use Rattle.page_table.specs.Reads.{leads_on, tree_reads}
use Rattle.page_table.specs.Stops.{is_absent, StopsAt, StopIsTrue, WalkStops}
use Rattle.page_table.specs.declared.Stop.{Stop}
use Rattle.page_table.specs.declared.Walk.{Walk}
use Rattle.page_table.specs.declared.Walk.TheVariants.{Leaf, Absent, Broken}
use Rattle.page_table.proofs.Walks.{whose, tree-whose}

-- a stop has this level
abbrev HasLevel : Walk → (level : ℕ) → Type 0
HasLevel (Leaf f) level = Unit {0}
HasLevel (Absent s) level = s.level ≡ level
HasLevel (Broken s) level = s.level ≡ level

-- so many words are read from a word on, and before it one for each level above
counts : (words : List ℕ) (vpn : ℕ) (global : Bool) (levels at : ℕ) → levels ≤ 2
    → HasLevel (descend words vpn global levels at) (2 - levels + length (tree_reads words vpn levels at))
unfolding descend tree_reads leads_on stop_at
counts words vpn global zero at l = go (present (get_or words at 0))
  where
    go : (p : Bool) → HasLevel (cond p (Leaf (leaf_at words global at)) (Absent (stop_at global 0))) 3
    go true = tt
    go false = refl
counts words vpn global (suc n) at l =
    go (present w) (broken (length words) (stretch_size n) w) (counts words vpn global n next (omega arith))
  where
    w : ℕ
    w = get_or words at 0

    next : ℕ
    next = index_below vpn n w

    below : Walk
    below = descend words vpn global n next

    reads : List ℕ
    reads = tree_reads words vpn n next

    more : (x : Walk) → HasLevel x (2 - n + length reads) → HasLevel x (2 - suc n + suc (length reads))
    more x h = subst (HasLevel x) (omega arith) h

    go : (p q : Bool) → HasLevel below (2 - n + length reads)
        → HasLevel (cond p (cond q (Broken (stop_at global (suc n))) below) (Absent (stop_at global (suc n))))
        (2 - suc n + length (at ∷ cond (p && not q) reads []))
    go true true ih = omega arith
    go true false ih = more below ih
    go false q ih = omega arith

-- a tree's walk stops in the tree that it names
tree-stops : (words : List ℕ) (id vpn : ℕ) (global : Bool) → (global ≡ false → is_absent (walk_tree words vpn true 63) ≡ true)
    → StopIsTrue words id vpn (walk_tree words vpn global (cond global 63 id))
unfolding walk_tree StopIsTrue whose
tree-stops words id vpn global after =
    let whole : 2 - 2 + length (tree_reads words vpn 2 root) ≡ length (tree_reads words vpn 2 root) = omega arith in
    let level = subst (HasLevel (walk_tree words vpn global root)) whole (counts words vpn global 2 root (omega arith)) in
    go (walk_tree words vpn global root) refl level (tree-whose words vpn global root)
  where
    root : ℕ
    root = cond global 63 id

    there : (x : Walk) (s : Stop) → walk_tree words vpn global root ≡ x → s.level ≡ length (tree_reads words vpn 2 root)
        → s.global ≡ global → StopsAt words id vpn x s
    there x s e h g = record {
      tree_is = subst (λ (b : Bool). walk_tree words vpn b (cond b 63 id) ≡ x) (sym g) e;
      own-after-global = λ own. after (sym g ∙ own);
      level-is = h ∙ ap (λ (b : Bool). length (tree_reads words vpn 2 (cond b 63 id))) (sym g);
    }

    go : (x : Walk) → walk_tree words vpn global root ≡ x → HasLevel x (length (tree_reads words vpn 2 root)) → whose x ≡ global
        → StopIsTrue words id vpn x
    go (Leaf f) e h g = tt
    go (Absent s) e h g = there (Absent s) s e h g
    go (Broken s) e h g = there (Broken s) s e h g

pub walk-stops : WalkStops
unfolding walk_page global_first is_absent
walk-stops words id vpn = go (walk_tree words vpn true 63) refl (tree-stops words id vpn true (λ e. absurd (clash refl e)))
  where
    go : (x : Walk) → walk_tree words vpn true 63 ≡ x → StopIsTrue words id vpn x
        → StopIsTrue words id vpn (global_first x (walk_tree words vpn false id))
    go (Leaf f) e h = h
    go (Absent s) e h = tree-stops words id vpn false (λ own. ap is_absent e)
    go (Broken s) e h = h
