-- The tests of a leaf's word, and what is left of it, in the code's words. Assumes nothing.
use Prim.Native.Nat.{ℕ, ◌+◌, ◌-◌, ◌/◌, ◌%◌, ◌^◌, ◌≤◌}
use mathlib.Core.Path.{◌≡◌, sym, ◌∙◌}
use mathlib.Core.Bool.{Bool, true, false, ◌&&◌}
use native.Mathlib.Omega.{arith}
use lib.Dec.{leb, ltb}
use borrow.Author.Tests.{eqb-true}
use Rattle.runs.specs.Bits.{flag, with_flag}
use Rattle.runs.proofs.Bools.{both}
use Rattle.page_table.specs.Words.{present, leaf_valid, leaf_pfn}
use Rattle.collector.specs.Visits.{in_pool, is_visited, aged}

pub valid-from : (w : ℕ) (b : Bool) → b ≡ leaf_valid w → b ≡ true → 1073741824 ≤ w
unfolding leaf_valid
valid-from w b q h = let e = eqb-true (w / 2 ^ 30 % 2) 1 (sym q ∙ h) in omega arith

pub present-from : (w : ℕ) → present w ≡ true → 2147483648 ≤ w
unfolding present
present-from w h = let e = eqb-true (w / 2 ^ 31 % 2) 1 h in omega arith

pub aged-valid : (w : ℕ) (b : Bool) → b ≡ leaf_valid w → b ≡ true → w - 1073741824 ≡ aged w
unfolding aged leaf_valid with_flag
aged-valid w b q h = let e : flag 30 w ≡ true = sym q ∙ h in sym (rw e (omega arith))

pub aged-old : (w : ℕ) (b : Bool) → b ≡ leaf_valid w → b ≡ false → present w ≡ true → w - 2147483648 ≡ aged w
unfolding aged leaf_valid present with_flag
aged-old w b q h p = let e : flag 30 w ≡ false = sym q ∙ h in sym (rw (e, p) (omega arith))

pub pfn-now : (w : ℕ) → w % 524288 ≡ leaf_pfn w
unfolding leaf_pfn
pfn-now w = omega arith

pub visited-now : (first size w pfn : ℕ) (b : Bool) → pfn ≡ leaf_pfn w → b ≡ present w
    → b && (leb first pfn && ltb pfn (first + size)) ≡ is_visited first size w
unfolding is_visited in_pool
visited-now first size w pfn b e q = rw (q, e)

pub visited-present : (first size w : ℕ) (b : Bool) → b ≡ is_visited first size w → b ≡ true → present w ≡ true
unfolding is_visited
visited-present first size w b q h = (both (present w) (in_pool first size (leaf_pfn w)) (sym q ∙ h)).0
