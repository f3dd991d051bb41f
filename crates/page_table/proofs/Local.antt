-- A walk depends on the length of the run and the words at the indexes that it reads, and on nothing else. Assumes nothing.
use Prim.Native.Nat.{ℕ, zero, suc, ◌≤◌, ◌<◌}
use mathlib.Core.Path.{◌≡◌, refl, ap, ◌∙◌}
use mathlib.Core.Bool.{Bool, true, false, cond, not, ◌&&◌}
use mathlib.Core.List.{List, [], ◌∷◌, ◌++◌}
use lib.ListN.{length, get_or}
use native.Mathlib.Omega.{arith}
use Rattle.page_table.specs.Words.{present}
use Rattle.page_table.specs.Stretches.{stretch_size, broken}
use Rattle.page_table.specs.Walk.{leaf_at, stop_at, index_below, descend, walk_tree, global_first, walk_page}
use Rattle.page_table.specs.Reads.{leads_on, tree_reads, own_reads, walk_reads, Agree}
use Rattle.page_table.proofs.Walks.{below-inside}
use Rattle.page_table.specs.declared.Walk.{Walk}
use Rattle.page_table.specs.declared.Walk.TheVariants.{Leaf, Absent, Broken}

agree-first : (is js a b : List ℕ) → Agree (is ++ js) a b → Agree is a b
unfolding Agree
agree-first [] js a b h = tt
agree-first (i ∷ is) js a b h = (h.0, agree-first is js a b h.1)

agree-rest : (is js a b : List ℕ) → Agree (is ++ js) a b → Agree js a b
unfolding Agree
agree-rest [] js a b h = h
agree-rest (i ∷ is) js a b h = agree-rest is js a b h.1

module _ (a b : List ℕ) (vpn : ℕ) (global : Bool) (same : length a ≡ length b) where
  pub descend-local : (levels at : ℕ) → Agree (tree_reads a vpn levels at) a b
      → descend a vpn global levels at ≡ descend b vpn global levels at
  unfolding descend tree_reads Agree leads_on leaf_at
  descend-local zero at h = rw h.0 refl
  descend-local (suc n) at h = rw (← h.0, ← same) (go (present w) (broken (length a) (stretch_size n) w) h.1 (descend-local n next))
    where
      w : ℕ
      w = get_or a at 0

      next : ℕ
      next = index_below vpn n w

      go : (p q : Bool) → Agree (cond (p && not q) (tree_reads a vpn n next) []) a b
          → (Agree (tree_reads a vpn n next) a b → descend a vpn global n next ≡ descend b vpn global n next)
          → cond p (cond q (Broken (stop_at global (suc n))) (descend a vpn global n next)) (Absent (stop_at global (suc n)))
          ≡ cond p (cond q (Broken (stop_at global (suc n))) (descend b vpn global n next)) (Absent (stop_at global (suc n)))
      go true true k ih = refl
      go true false k ih = ih k
      go false q k ih = refl

pub walk-local : (a b : List ℕ) (id vpn : ℕ) → length a ≡ length b → Agree (walk_reads a id vpn) a b
    → walk_page a id vpn ≡ walk_page b id vpn
unfolding walk_page walk_tree walk_reads global_first own_reads
walk-local a b id vpn same h =
    rest (descend a vpn true 2 63) (agree-rest (tree_reads a vpn 2 63) _ a b h)
    ∙ ap (λ (x : Walk). global_first x (descend b vpn false 2 id)) top
  where
    top : descend a vpn true 2 63 ≡ descend b vpn true 2 63
    top = descend-local a b vpn true same 2 63 (agree-first (tree_reads a vpn 2 63) _ a b h)

    rest : (x : Walk) → Agree (own_reads x (tree_reads a vpn 2 id)) a b
        → global_first x (descend a vpn false 2 id) ≡ global_first x (descend b vpn false 2 id)
    rest (Leaf l) k = refl
    rest (Absent s) k = descend-local a b vpn false same 2 id k
    rest (Broken s) k = refl

-- every index of a list is below a bound
unfoldable pub AllBelow : (bound : ℕ) (indexes : List ℕ) → Type 0
AllBelow bound [] = Unit {0}
AllBelow bound (i ∷ is) = (i < bound) × AllBelow bound is

below_both : (bound : ℕ) (is js : List ℕ) → AllBelow bound is → AllBelow bound js → AllBelow bound (is ++ js)
unfolding AllBelow
below_both bound [] js p q = q
below_both bound (i ∷ is) js p q = (p.0, below_both bound is js p.1 q)

-- a walk reads only words of the run
module _ (words : List ℕ) (vpn : ℕ) (page : vpn < 524288) where
  pub tree-reads-inside : (levels at : ℕ) → at < length words → AllBelow (length words) (tree_reads words vpn levels at)
  unfolding tree_reads AllBelow leads_on
  tree-reads-inside zero at h = (h, tt)
  tree-reads-inside (suc n) at h = (h, go (present w) (broken (length words) (stretch_size n) w) refl (tree-reads-inside n next))
    where
      w : ℕ
      w = get_or words at 0

      next : ℕ
      next = index_below vpn n w

      go : (p q : Bool) → broken (length words) (stretch_size n) w ≡ q
          → (next < length words → AllBelow (length words) (tree_reads words vpn n next))
          → AllBelow (length words) (cond (p && not q) (tree_reads words vpn n next) [])
      go true true e ih = tt
      go true false e ih = ih (below-inside (length words) vpn n w page e)
      go false q e ih = tt

  pub reads-inside : (id : ℕ) → id ≤ 63 → 64 ≤ length words → AllBelow (length words) (walk_reads words id vpn)
  unfolding walk_reads own_reads AllBelow
  reads-inside id known roots =
      below_both (length words) (tree_reads words vpn 2 63) _ (tree-reads-inside 2 63 (omega arith))
      (own (walk_tree words vpn true 63) (tree-reads-inside 2 id (omega arith)))
    where
      own : (x : Walk) → AllBelow (length words) (tree_reads words vpn 2 id)
          → AllBelow (length words) (own_reads x (tree_reads words vpn 2 id))
      own (Leaf f) k = tt
      own (Absent s) k = k
      own (Broken s) k = tt
