-- What every leaf that a pass visits has. Assumes nothing.
use Prim.Native.Nat.{ℕ, zero, suc, ◌+◌, ◌-◌, ◌*◌, ◌≤◌, ◌<◌}
use mathlib.Core.Path.{◌≡◌, refl, subst}
use mathlib.Core.Bool.{Bool, true, false, cond}
use mathlib.Core.List.{List, [], ◌∷◌}
use native.Mathlib.Omega.{arith}
use lib.ListN.{length, get_or}
use lib.Dec.{eqb, leb, ltb}
use borrow.Author.Tests.{eqb-true, leb-true, ltb-true}
use Rattle.runs.specs.Bits.{bit}
use Rattle.runs.proofs.Bools.{both}
use Rattle.page_table.specs.Words.{present, number, leaf_pfn}
use Rattle.page_table.specs.Stretches.{stretch_size, directory_word}
use Rattle.page_table.specs.Reads.{leads_on}
use Rattle.reach.proofs.LinkLaws.{leads-fits}
use Rattle.store.specs.Rewrite.{Put}
use Rattle.store.specs.Scan.{put_at}
use Rattle.store.proofs.Scans.{Every, every-both, scan-every}
use Rattle.heap.specs.Sequences.{times}
use Rattle.heap.specs.declared.Pool.{Pool}
use Rattle.heap.proofs.Marks.{Sound}
use Rattle.collector.specs.Visits.{in_pool, is_visited, table_leaves, tree_leaves, pass_leaves}
use Rattle.collector.specs.Frames.{pfns_of, mapped_right, all_given}
use Rattle.collector.proofs.FrameLaws.{frames-right}

-- what every present word of the run has whose pfn is in the pool, every visited leaf has
module _ (words : List ℕ) (first size : ℕ) (P : Put → Type 0)
    (h : (i : ℕ) → i < length words → is_visited first size (get_or words i 0) ≡ true → P (put_at i (get_or words i 0))) where
  table-every : (w : ℕ) → leads_on (length words) 0 w ≡ true → Every P (table_leaves words first size (number w))
  unfolding table_leaves stretch_size
  table-every w leads =
      let room : 1024 * number w + 1024 ≤ length words = leads-fits (length words) 0 w leads in
      scan-every (λ i. is_visited first size (get_or words i 0)) (λ i. get_or words i 0) (1024 * number w) P 1024
      (λ k l. h (1024 * number w + k) (omega arith))

  tree-every : (d n : ℕ) → Every P (tree_leaves words first size d n)
  unfolding Every tree_leaves
  tree-every d zero = tt
  tree-every d (suc n) = every-both P (tree_leaves words first size d n) _ (tree-every d n)
      (go (leads_on (length words) 0 (directory_word words d n)) refl)
    where
      go : (b : Bool) → leads_on (length words) 0 (directory_word words d n) ≡ b
          → Every P (cond b (table_leaves words first size (number (directory_word words d n))) [])
      go true e = table-every (directory_word words d n) e
      go false e = tt

  pub pass-every : (id : ℕ) → Every P (pass_leaves words first size id)
  unfolding Every pass_leaves
  pass-every id = go (leads_on (length words) 1 (get_or words id 0))
    where
      go : (b : Bool) → Every P (cond b (tree_leaves words first size (number (get_or words id 0)) 512) [])
      go true = tree-every (number (get_or words id 0)) 512
      go false = tt

module _ (words : List ℕ) (first size id : ℕ) where
  -- it stands in the run
  pub pass-inside : Every (λ q. q.index < length words) (pass_leaves words first size id)
  pass-inside = pass-every words first size (λ q. q.index < length words) (λ i l v. l) id

  -- its frame is in the pool
  pub pass-pool : Every (λ q. in_pool first size (leaf_pfn q.value) ≡ true) (pass_leaves words first size id)
  unfolding is_visited
  pass-pool =
      pass-every words first size (λ q. in_pool first size (leaf_pfn q.value) ≡ true)
      (λ i l v. (both (present (get_or words i 0)) (in_pool first size (leaf_pfn (get_or words i 0))) v).1) id

-- a pfn that is one of theirs
pool-pfn : (first size : ℕ) (ls : List Put) → Every (λ q. in_pool first size (leaf_pfn q.value) ≡ true) ls
    → (pfn : ℕ) → 1 ≤ times pfn (pfns_of ls) → in_pool first size pfn ≡ true
unfolding Every pfns_of times
pool-pfn first size [] e pfn l = absurd (omega arith)
pool-pfn first size (q ∷ qs) e pfn l = go (eqb (leaf_pfn q.value) pfn) refl l (pool-pfn first size qs e.1 pfn)
  where
    go : (b : Bool) → eqb (leaf_pfn q.value) pfn ≡ b → 1 ≤ bit b + times pfn (pfns_of qs)
        → (1 ≤ times pfn (pfns_of qs) → in_pool first size pfn ≡ true) → in_pool first size pfn ≡ true
    go true t u later = subst (λ (n : ℕ). in_pool first size n ≡ true) (eqb-true (leaf_pfn q.value) pfn t) e.0
    go false t u later = later (omega arith)

pool-place : (first size pfn : ℕ) → in_pool first size pfn ≡ true → (first ≤ pfn) × (pfn - first < size)
unfolding in_pool
pool-place first size pfn h =
    let parts = both (leb first pfn) (ltb pfn (first + size)) h in
    let low = leb-true first pfn parts.0 in
    let high = ltb-true pfn (first + size) parts.1 in
    (low, omega arith)

-- the frames can all be given exactly where none is mapped twice or unheld
pub pass-frames : (p : Pool) → Sound p → (words : List ℕ) (id : ℕ)
    → all_given p (pfns_of (pass_leaves words p.first p.size id)) ≡ mapped_right p (pfns_of (pass_leaves words p.first p.size id))
unfolding mapped_right
pass-frames p sound words id =
    frames-right p sound (pfns_of (pass_leaves words p.first p.size id))
    (λ pfn l. pool-place p.first p.size pfn
    (pool-pfn p.first p.size (pass_leaves words p.first p.size id) (pass-pool words p.first p.size id) pfn l))
