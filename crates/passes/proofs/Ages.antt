-- A leaf's word after one visit, and after two. Assumes nothing.
use Prim.Native.Nat.{ℕ, ◌+◌, ◌-◌, ◌*◌, ◌/◌, ◌%◌, ◌^◌, ◌≤◌, ◌<◌}
use mathlib.Core.Path.{◌≡◌, refl}
use mathlib.Core.Bool.{Bool, true, false, cond}
use lib.Dec.{leb, ltb}
use native.Mathlib.Omega.{arith}
use borrow.Author.Tests.{eqb-true, leb-true, ltb-true, le-leb, lt-ltb}
use Rattle.runs.specs.Bits.{flag, bit, with_flag}
use Rattle.runs.proofs.Bools.{both, and_both}
use Rattle.runs.proofs.Flags.{with-same, with-other}
use Rattle.page_table.specs.Words.{present, leaf_valid, leaf_pfn}
use Rattle.collector.specs.Visits.{in_pool, is_visited, aged}

-- a valid leaf keeps its present bit and its pfn, and is not valid any more
pub young-present : (w : ℕ) → present (with_flag false 30 w) ≡ present w
unfolding present
young-present w = with-other false 31 30 w (λ (e : 31 ≡ 30). omega arith)

pub young-valid : (w : ℕ) → leaf_valid (with_flag false 30 w) ≡ false
unfolding leaf_valid
young-valid w = with-same false 30 w

pub young-pfn : (w : ℕ) → leaf_pfn (with_flag false 30 w) ≡ leaf_pfn w
unfolding leaf_pfn with_flag
young-pfn w = go (flag 30 w) refl
  where
    go : (b : Bool) → flag 30 w ≡ b → (w - bit b * 2 ^ 30 + bit false * 2 ^ 30) / 2 ^ 0 % 2 ^ (18 - 0 + 1) ≡ w / 2 ^ 0 % 2 ^ (18 - 0 + 1)
    go true e = let h = eqb-true (w / 2 ^ 30 % 2) 1 e in omega arith
    go false e = omega arith

pub old-present : (w : ℕ) → present (with_flag false 31 w) ≡ false
unfolding present
old-present w = with-same false 31 w

-- a word that was visited, and what the next pass makes of it
pub again : (first size w : ℕ) → is_visited first size w ≡ true
    → present (cond (is_visited first size (aged w)) (aged (aged w)) (aged w)) ≡ false
unfolding aged is_visited
again first size w h = go (leaf_valid w)
  where
    parts : (present w ≡ true) × (in_pool first size (leaf_pfn w) ≡ true)
    parts = both (present w) (in_pool first size (leaf_pfn w)) h

    young : ℕ
    young = with_flag false 30 w

    old : ℕ
    old = with_flag false 31 w

    go : (b : Bool) → present (cond (is_visited first size (cond b (with_flag false 30 w) (with_flag false 31 w)))
        (aged (cond b (with_flag false 30 w) (with_flag false 31 w))) (cond b (with_flag false 30 w) (with_flag false 31 w))) ≡ false
    go true = rw (young-present w, young-pfn w, parts.0, parts.1, young-valid w) (old-present (with_flag false 30 w))
    go false = rw (old-present w) (old-present w)

-- one that was not valid is gone at once
pub old-gone : (w : ℕ) → leaf_valid w ≡ false → present (aged w) ≡ false
unfolding aged
old-gone w h = rw h (old-present w)

pub young-word : (w : ℕ) → leaf_valid w ≡ true → aged w ≡ with_flag false 30 w
unfolding aged
young-word w h = rw h

pub old-word : (w : ℕ) → leaf_valid w ≡ false → aged w ≡ with_flag false 31 w
unfolding aged
old-word w h = rw h

-- a pfn in the pool
pub in-pool : (first size pfn : ℕ) → first ≤ pfn → pfn < first + size → in_pool first size pfn ≡ true
unfolding in_pool
in-pool first size pfn low high = and_both (le-leb first pfn low) (lt-ltb pfn (first + size) high)

pub pool-in : (first size pfn : ℕ) → in_pool first size pfn ≡ true → (first ≤ pfn) × (pfn < first + size)
unfolding in_pool
pool-in first size pfn h =
    let parts = both (leb first pfn) (ltb pfn (first + size)) h in
    (leb-true first pfn parts.0, ltb-true pfn (first + size) parts.1)
