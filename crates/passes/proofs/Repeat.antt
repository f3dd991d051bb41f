-- The leaves that the next pass visits are those that were valid, aged once; so it is not refused for frames either. Assumes nothing.
use Prim.Native.Nat.{ℕ, zero, suc, ◌+◌, ◌*◌, ◌≤◌, ◌<◌}
use mathlib.Core.Path.{◌≡◌, refl, sym, ap, ap₂, ◌∙◌}
use mathlib.Core.Bool.{Bool, true, false, cond, ◌&&◌}
use mathlib.Core.List.{List, [], ◌∷◌, ◌++◌}
use native.Mathlib.Nat.{lt-suc_self}
use native.Mathlib.Omega.{arith}
use lib.ListN.{length, get_or}
use lib.Dec.{eqb}
use Rattle.runs.specs.Bits.{bit, with_flag}
use Rattle.page_table.specs.Words.{present, number, leaf_valid, leaf_pfn}
use Rattle.page_table.specs.Reads.{leads_on}
use Rattle.store.specs.Rewrite.{Put}
use Rattle.heap.specs.Sequences.{times}
use Rattle.heap.specs.declared.Pool.{Pool}
use Rattle.heap.proofs.Marks.{Sound}
use Rattle.store.specs.Scan.{put_at, puts_from}
use Rattle.page_table.specs.Stretches.{directory_word}
use Rattle.collector.specs.Visits.{in_pool, is_visited, aged, table_leaves, tree_leaves, pass_leaves}
use Rattle.collector.proofs.Puts.{pass_words}
use Rattle.collector.specs.Frames.{pfns_of, given_of, all_given, pool_after_gives}
use Rattle.trees.proofs.Apart.{Apart}
use Rattle.collector.proofs.Passes.{pass-length, pass-root, pass-word, pass-leaf}
use Rattle.passes.proofs.Ages.{young-present, young-pfn, old-present}
use Rattle.collector.proofs.FrameLaws.{all-within, within_all, fewer-given, gives-account}

-- the leaves that were valid, aged
unfoldable pub kept_of : List Put → List Put
kept_of [] = []
kept_of (q ∷ qs) = cond (leaf_valid q.value) (put_at q.index (aged q.value) ∷ kept_of qs) (kept_of qs)

pub kept_append : (a b : List Put) → kept_of (a ++ b) ≡ kept_of a ++ kept_of b
unfolding kept_of
kept_append [] b = refl
kept_append (q ∷ qs) b = rw (kept_append qs b) (go (leaf_valid q.value))
  where
    go : (t : Bool) → cond t (put_at q.index (aged q.value) ∷ (kept_of qs ++ kept_of b)) (kept_of qs ++ kept_of b)
        ≡ cond t (put_at q.index (aged q.value) ∷ kept_of qs) (kept_of qs) ++ kept_of b
    go true = refl
    go false = refl

-- a word after a pass: visited again exactly where it was visited and valid
visited-again : (first size w : ℕ) → is_visited first size (cond (is_visited first size w) (aged w) w) ≡ is_visited first size w && leaf_valid w
unfolding aged is_visited
visited-again first size w = go (present w) (in_pool first size (leaf_pfn w)) refl refl (leaf_valid w)
  where
    go : (p q : Bool) → present w ≡ p → in_pool first size (leaf_pfn w) ≡ q → (v : Bool)
        → is_visited first size (cond (p && q) (cond v (with_flag false 30 w) (with_flag false 31 w)) w) ≡ p && q && v
    go true true e f true = rw (young-present w, young-pfn w, e, f)
    go true true e f false = rw (old-present w)
    go true false e f v = rw (e, f)
    go false q e f v = rw e

scan-kept : (p p' : ℕ → Bool) (v v' : ℕ → ℕ) (a n : ℕ) → ((k : ℕ) → k < n → p' (a + k) ≡ p (a + k) && leaf_valid (v (a + k)))
    → ((k : ℕ) → k < n → p (a + k) ≡ true → v' (a + k) ≡ aged (v (a + k))) → puts_from p' v' a n ≡ kept_of (puts_from p v a n)
unfolding puts_from kept_of
scan-kept p p' v v' a zero h g = refl
scan-kept p p' v v' a (suc n) h g =
    ap₂ ◌++◌ (scan-kept p p' v v' a n (λ k l. h k (omega arith)) (λ k l. g k (omega arith)))
    (ap (λ (t : Bool). cond t (put_at (a + n) (v' (a + n)) ∷ []) []) (h n (lt-suc_self n))
    ∙ go (p (a + n)) (leaf_valid (v (a + n))) (g n (lt-suc_self n)))
    ∙ sym (kept_append (puts_from p v a n) (cond (p (a + n)) (put_at (a + n) (v (a + n)) ∷ []) [])
    ∙ ap (λ (xs : List Put). kept_of (puts_from p v a n) ++ xs) (one (p (a + n))))
  where
    one : (b : Bool) → kept_of (cond b (put_at (a + n) (v (a + n)) ∷ []) [])
        ≡ cond b (cond (leaf_valid (v (a + n))) (put_at (a + n) (aged (v (a + n))) ∷ []) []) []
    one true = refl
    one false = refl

    go : (b t : Bool) → (b ≡ true → v' (a + n) ≡ aged (v (a + n)))
        → cond (b && t) (put_at (a + n) (v' (a + n)) ∷ []) [] ≡ cond b (cond t (put_at (a + n) (aged (v (a + n))) ∷ []) []) []
    go true true f = ap (λ (x : ℕ). put_at (a + n) x ∷ []) (f refl)
    go true false f = refl
    go false t f = refl

module _ (words : List ℕ) (first size id : ℕ) (known : id < 64) (root : leads_on (length words) 1 (get_or words id 0) ≡ true)
    (own : Apart words (number (get_or words id 0))) where
  abbrev after : List ℕ
  after = pass_words words first size id

  abbrev d : ℕ
  d = number (get_or words id 0)

  table_kept : (j : ℕ) → j < 512 → leads_on (length words) 0 (directory_word words d j) ≡ true
      → table_leaves after first size (number (directory_word words d j))
      ≡ kept_of (table_leaves words first size (number (directory_word words d j)))
  unfolding table_leaves
  table_kept j l h =
      let t : ℕ = number (directory_word words d j) in
      scan-kept (λ i. is_visited first size (get_or words i 0)) (λ i. is_visited first size (get_or after i 0)) (λ i. get_or words i 0)
      (λ i. get_or after i 0)
      (1024 * t) 1024
      (λ k kl. ap (is_visited first size) (pass-leaf words first size id root own j k l h kl)
      ∙ visited-again first size (get_or words (1024 * t + k) 0))
      (λ k kl e. pass-leaf words first size id root own j k l h kl
      ∙ ap (λ (b : Bool). cond b (aged (get_or words (1024 * t + k) 0)) (get_or words (1024 * t + k) 0)) e)

  tree-kept : (n : ℕ) → n ≤ 512 → tree_leaves after first size d n ≡ kept_of (tree_leaves words first size d n)
  unfolding tree_leaves kept_of
  tree-kept zero l = refl
  tree-kept (suc n) l =
      ap₂ ◌++◌ (tree-kept n (omega arith))
      (ap₂ (λ (k w : ℕ). cond (leads_on k 0 w) (table_leaves after first size (number w)) []) (pass-length words first size id root)
      (pass-word words first size id root own n (omega arith)) ∙ go (leads_on (length words) 0 (directory_word words d n)) refl)
      ∙ sym (kept_append (tree_leaves words first size d n)
      (cond (leads_on (length words) 0 (directory_word words d n)) (table_leaves words first size (number (directory_word words d n))) []))
    where
      go : (b : Bool) → leads_on (length words) 0 (directory_word words d n) ≡ b
          → cond b (table_leaves after first size (number (directory_word words d n))) []
          ≡ kept_of (cond b (table_leaves words first size (number (directory_word words d n))) [])
      go true e = table_kept n (omega arith) e
      go false e = refl

  -- the next pass visits the leaves that were valid
  pub pass_kept : pass_leaves after first size id ≡ kept_of (pass_leaves words first size id)
  unfolding pass_leaves
  pass_kept =
      ap₂ (λ (k w : ℕ). cond (leads_on k 1 w) (tree_leaves after first size (number w) 512) []) (pass-length words first size id root)
      (pass-root words first size id root id known)
      ∙ ap (λ (b : Bool). cond b (tree_leaves after first size d 512) []) root
      ∙ tree-kept 512 (omega arith)
      ∙ ap (λ (b : Bool). kept_of (cond b (tree_leaves words first size d 512) [])) (sym root)

pub aged-pfn : (w : ℕ) → leaf_valid w ≡ true → leaf_pfn (aged w) ≡ leaf_pfn w
unfolding aged
aged-pfn w h = rw h (young-pfn w)

pub given-append : (a b : List Put) → given_of (a ++ b) ≡ given_of a ++ given_of b
unfolding given_of
given-append [] b = refl
given-append (q ∷ qs) b = rw (given-append qs b) (go (leaf_valid q.value))
  where
    go : (t : Bool) → cond t (given_of qs ++ given_of b) (leaf_pfn q.value ∷ (given_of qs ++ given_of b))
        ≡ cond t (given_of qs) (leaf_pfn q.value ∷ given_of qs) ++ given_of b
    go true = refl
    go false = refl

-- each visited frame stays mapped or goes back
pub parts : (pfn : ℕ) (ls : List Put) → times pfn (pfns_of (kept_of ls)) + times pfn (given_of ls) ≡ times pfn (pfns_of ls)
unfolding pfns_of kept_of given_of times
parts pfn [] = refl
parts pfn (q ∷ qs) = go (leaf_valid q.value) refl (parts pfn qs)
  where
    go : (b : Bool) → leaf_valid q.value ≡ b → times pfn (pfns_of (kept_of qs)) + times pfn (given_of qs) ≡ times pfn (pfns_of qs)
        → times pfn (pfns_of (cond b (put_at q.index (aged q.value) ∷ kept_of qs) (kept_of qs)))
        + times pfn (cond b (given_of qs) (leaf_pfn q.value ∷ given_of qs))
        ≡ bit (eqb (leaf_pfn q.value) pfn) + times pfn (pfns_of qs)
    go true e ih =
        let same : bit (eqb (leaf_pfn (aged q.value)) pfn) ≡ bit (eqb (leaf_pfn q.value) pfn) =
        ap (λ (n : ℕ). bit (eqb n pfn)) (aged-pfn q.value e) in
        omega arith
    go false e ih = omega arith

-- what was given back could be given, and what stays mapped is held in the pool after it
pub given-fits : (p : Pool) → Sound p → (ls : List Put) → all_given p (pfns_of ls) ≡ true → all_given p (given_of ls) ≡ true
given-fits p sound ls h = fewer-given p sound (pfns_of ls) (given_of ls) (λ pfn. omega (arith, parts pfn ls)) h

pub kept-fits : (p : Pool) → Sound p → (ls : List Put) → all_given p (pfns_of ls) ≡ true
    → all_given (pool_after_gives p (given_of ls)) (pfns_of (kept_of ls)) ≡ true
kept-fits p sound ls h =
    let a = gives-account p sound (given_of ls) (given-fits p sound ls h) in
    within_all (pool_after_gives p (given_of ls)) a.sound-still (pfns_of (kept_of ls))
    (λ pfn. omega (arith, parts pfn ls, all-within p sound (pfns_of ls) h pfn, a.frame pfn))
