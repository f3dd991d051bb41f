-- A pass visits the leaves of its pages, lowest page first. Assumes nothing.
use Prim.Native.Nat.{ℕ, zero, suc, ◌+◌, ◌*◌, ◌/◌, ◌%◌, ◌≤◌, ◌<◌}
use mathlib.Core.Path.{◌≡◌, refl, sym, ap, ap₂, ◌∙◌}
use mathlib.Core.Bool.{Bool, true, false, cond, not, ◌&&◌}
use mathlib.Core.List.{List, [], ◌∷◌, ◌++◌, append_assoc, append-nil}
use native.Mathlib.Nat.{add-suc, add-zero, add_assoc, zero-add}
use native.Mathlib.Omega.{arith}
use lib.ListN.{length, get_or}
use Rattle.runs.proofs.Bools.{clash}
use Rattle.page_table.specs.Words.{present, number, leaf_pfn}
use Rattle.page_table.specs.Stretches.{stretch_size, index_in, broken, directory_word}
use Rattle.page_table.specs.Walk.{index_below, descend, walk_tree, leaf_at, stop_at}
use Rattle.page_table.specs.Reads.{leads_on}
use Rattle.page_table.specs.declared.Walk.{Walk}
use Rattle.page_table.specs.declared.Walk.TheVariants.{Leaf, Absent, Broken}
use Rattle.store.specs.Rewrite.{Put}
use Rattle.store.specs.Scan.{put_at, puts_from}
use Rattle.collector.specs.Visits.{in_pool, is_visited, table_leaves, tree_leaves, pass_leaves}
use Rattle.passes.specs.Pages.{page_leaf, page_leaves, VisitsPages}
use Rattle.page_table.proofs.Ways.{goes_down}

module _ (words : List ℕ) (first size : ℕ) where
  -- a walk that a word does not lead on visits nothing
  stops : (vpn n at : ℕ) → leads_on (length words) n (get_or words at 0) ≡ false → page_leaf first size (descend words vpn false (suc n) at)
      ≡ []
  unfolding descend leads_on page_leaf
  stops vpn n at h = go (present w) (broken (length words) (stretch_size n) w) h
    where
      w : ℕ
      w = get_or words at 0

      next : Walk
      next = descend words vpn false n (index_below vpn n w)

      go : (p b : Bool) → p && not b ≡ false
          → page_leaf first size (cond p (cond b (Broken (stop_at false (suc n))) next) (Absent (stop_at false (suc n)))) ≡ []
      go true true e = refl
      go true false e = absurd (clash refl e)
      go false b e = refl

  leaf-visit : (vpn at : ℕ) → page_leaf first size (descend words vpn false 0 at)
      ≡ cond (is_visited first size (get_or words at 0)) (put_at at (get_or words at 0) ∷ []) []
  unfolding descend page_leaf leaf_at is_visited
  leaf-visit vpn at = go (present (get_or words at 0))
    where
      w : ℕ
      w = get_or words at 0

      go : (p : Bool) → page_leaf first size (cond p (Leaf (leaf_at words false at)) (Absent (stop_at false 0)))
          ≡ cond (p && in_pool first size (leaf_pfn w)) (put_at at w ∷ []) []
      go true = refl
      go false = refl

  module _ (id : ℕ) (root : leads_on (length words) 1 (get_or words id 0) ≡ true) where
    abbrev d : ℕ
    d = number (get_or words id 0)

    abbrev leads : ℕ → Bool
    leads j = leads_on (length words) 0 (directory_word words d j)

    abbrev visit : ℕ → Bool
    visit i = is_visited first size (get_or words i 0)

    abbrev value : ℕ → ℕ
    value i = get_or words i 0

    page-at : (j k : ℕ) → k < 1024 → page_leaf first size (walk_tree words (1024 * j + k) false id)
        ≡ cond (leads j) (cond (visit (1024 * number (directory_word words d j) + k))
        (put_at (1024 * number (directory_word words d j) + k) (value (1024 * number (directory_word words d j) + k)) ∷ []) []) []
    unfolding walk_tree index_below stretch_size index_in directory_word
    page-at j k l =
        ap (page_leaf first size) (goes_down words (1024 * j + k) false 1 id root)
        ∙ ap (λ (i : ℕ). page_leaf first size (descend words (1024 * j + k) false 1 (512 * number (get_or words id 0) + i))) row
        ∙ by_word (leads_on (length words) 0 (get_or words (512 * number (get_or words id 0) + j) 0)) refl
      where
        row : (1024 * j + k) / 1024 ≡ j
        row = omega arith

        column : (1024 * j + k) % 1024 ≡ k
        column = omega arith

        w : ℕ
        w = get_or words (512 * number (get_or words id 0) + j) 0

        by_word : (b : Bool) → leads_on (length words) 0 (get_or words (512 * number (get_or words id 0) + j) 0) ≡ b
            → page_leaf first size (descend words (1024 * j + k) false 1 (512 * number (get_or words id 0) + j))
            ≡ cond b (cond (visit (1024 * number (get_or words (512 * number (get_or words id 0) + j) 0) + k))
            (put_at (1024 * number (get_or words (512 * number (get_or words id 0) + j) 0) + k)
            (value (1024 * number (get_or words (512 * number (get_or words id 0) + j) 0) + k)) ∷ []) []) []
        by_word true e =
            ap (page_leaf first size) (goes_down words (1024 * j + k) false 0 (512 * number (get_or words id 0) + j) e)
            ∙ ap (λ (i : ℕ). page_leaf first size (descend words (1024 * j + k) false 0
            (1024 * number (get_or words (512 * number (get_or words id 0) + j) 0) + i)))
            column
            ∙ leaf-visit (1024 * j + k) (1024 * number (get_or words (512 * number (get_or words id 0) + j) 0) + k)
        by_word false e = stops (1024 * j + k) 0 (512 * number (get_or words id 0) + j) e

    -- the pages of a table
    table-pages : (j n : ℕ) → n ≤ 1024 → page_leaves words first size id (1024 * j) n
        ≡ cond (leads j) (puts_from visit value (1024 * number (directory_word words d j)) n) []
    unfolding page_leaves puts_from
    table-pages j zero l = go (leads j)
      where
        go : (b : Bool) → ◌≡◌ {A = List Put} [] (cond b [] [])
        go true = refl
        go false = refl
    table-pages j (suc n) l =
        ap₂ ◌++◌ (table-pages j n (omega arith)) (page-at j n (omega arith)) ∙ go (leads j)
      where
        t : ℕ
        t = number (directory_word words d j)

        xs : List Put
        xs = puts_from visit value (1024 * number (directory_word words d j)) n

        ys : List Put
        ys = cond (visit (1024 * number (directory_word words d j) + n))
            (put_at (1024 * number (directory_word words d j) + n) (value (1024 * number (directory_word words d j) + n)) ∷ []) []

        go : (b : Bool) → cond b xs [] ++ cond b ys [] ≡ cond b (xs ++ ys) []
        go true = refl
        go false = refl

  pages-add : (id a n m : ℕ) → page_leaves words first size id a (n + m)
      ≡ page_leaves words first size id a n ++ page_leaves words first size id (a + n) m
  unfolding page_leaves
  pages-add id a n zero = rw (add-zero n) (sym (append-nil (page_leaves words first size id a n)))
  pages-add id a n (suc m) =
      rw (add-suc n m)
      (ap (λ (ps : List Put). ps ++ page_leaf first size (walk_tree words (a + (n + m)) false id)) (pages-add id a n m)
      ∙ append_assoc (page_leaves words first size id a n) (page_leaves words first size id (a + n) m)
      (page_leaf first size (walk_tree words (a + (n + m)) false id))
      ∙ ap (λ (k : ℕ). page_leaves words first size id a n ++ (page_leaves words first size id (a + n) m ++ page_leaf first size
      (walk_tree words k false id)))
      (sym (add_assoc a n m)))

  pages-none : (id : ℕ) → leads_on (length words) 1 (get_or words id 0) ≡ false → (n : ℕ) → page_leaves words first size id 0 n ≡ []
  unfolding page_leaves walk_tree
  pages-none id h zero = refl
  pages-none id h (suc n) = rw (pages-none id h n) (stops (0 + n) 1 id h)

  tree-pages : (id : ℕ) → leads_on (length words) 1 (get_or words id 0) ≡ true → (n : ℕ)
      → tree_leaves words first size (number (get_or words id 0)) n ≡ page_leaves words first size id 0 (1024 * n)
  unfolding tree_leaves table_leaves page_leaves
  tree-pages id root zero = refl
  tree-pages id root (suc n) =
      ap₂ ◌++◌ (tree-pages id root n) (sym (table-pages id root n 1024 (omega arith)))
      ∙ ap (λ (k : ℕ). page_leaves words first size id 0 (1024 * n) ++ page_leaves words first size id k 1024) (sym (zero-add (1024 * n)))
      ∙ sym (pages-add id 0 (1024 * n) 1024)
      ∙ ap (page_leaves words first size id 0) (let e : 1024 * n + 1024 ≡ 1024 * suc n = omega arith in e)

pub visits-pages : VisitsPages
unfolding VisitsPages pass_leaves
visits-pages words first size id = by-root (leads_on (length words) 1 (get_or words id 0)) refl
  where
    by-root : (b : Bool) → leads_on (length words) 1 (get_or words id 0) ≡ b
        → cond b (tree_leaves words first size (number (get_or words id 0)) 512) [] ≡ page_leaves words first size id 0 524288
    by-root true e = tree-pages words first size id e 512
    by-root false e = sym (pages-none words first size id e 524288)
