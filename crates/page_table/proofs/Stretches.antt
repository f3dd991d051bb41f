-- Laws of the run of table words and of the stretches in it. Assumes nothing.
use Prim.Native.Nat.{ℕ, zero, suc, ◌+◌, ◌-◌, ◌*◌, ◌/◌, ◌%◌, ◌≤◌, ◌<◌}
use mathlib.Core.Path.{◌≡◌, refl, ◌∙◌}
use mathlib.Core.Bool.{Bool, true, false, not, ◌&&◌, ◌||◌}
use mathlib.Core.List.{List}
use lib.ListN.{length, get_or, drop, length-drop}
use lib.Seq.{length-take-le, get_or-take, get_or-drop}
use lib.Dec.{eqb, leb, lit≤}
use native.Mathlib.Nat.{mul-le-mul}
use native.Mathlib.Omega.{arith}
use borrow.Author.Tests.{leb-true, leb-false, le-leb, lt-leb, not-false}
use Rattle.runs.proofs.Bools.{both, or-neither}
use Rattle.page_table.specs.Words.{reserved, number}
use Rattle.page_table.specs.Stretches.{length_fits, tables_fit, stretch_size, index_in, stretch, inside, broken}

-- a run that passes refusal 3's test has all the roots, and its indexes fit 26 bits
pub fit-bounds : (words : List ℕ) → tables_fit words ≡ true → (1024 ≤ length words) × (length words ≤ 67108864)
unfolding tables_fit length_fits
fit-bounds words h =
    let l = both (leb 1024 (length words) && leb (length words) 67108864) _ h in
    let m = both (leb 1024 (length words)) _ l.0 in
    (leb-true _ _ m.0, leb-true _ _ m.1)

pub fit-roots : (words : List ℕ) → tables_fit words ≡ true → 64 ≤ length words
fit-roots words h = omega (arith, (fit-bounds words h).0)

-- the number in the code's words
pub number_is : (w : ℕ) → w % 65536 ≡ number w
unfolding number
number_is w = omega arith

-- the stretches' sizes
pub size-le : (levels : ℕ) → (1 ≤ stretch_size levels) × (stretch_size levels ≤ 1024)
unfolding stretch_size
size-le zero = (lit≤ tt, lit≤ tt)
size-le (suc n) = (lit≤ tt, lit≤ tt)

pub size-table : (levels : ℕ) → levels ≡ 0 → 1024 ≡ stretch_size levels
unfolding stretch_size
size-table levels e = rw e

pub size-directory : (levels : ℕ) → (levels ≡ 0 → ⊥) → 512 ≡ stretch_size levels
unfolding stretch_size
size-directory zero h = absurd (h refl)
size-directory (suc n) h = refl

-- a page's index in a stretch
pub index-table : (levels vpn : ℕ) → levels ≡ 0 → vpn % 1024 ≡ index_in levels vpn
unfolding index_in
index-table levels vpn e = rw e

pub index-directory : (levels vpn : ℕ) → (levels ≡ 0 → ⊥) → vpn / 1024 ≡ index_in levels vpn
unfolding index_in
index-directory zero vpn h = absurd (h refl)
index-directory (suc n) vpn h = refl

pub index-lt : (levels vpn : ℕ) → vpn < 524288 → index_in levels vpn < stretch_size levels
unfolding index_in stretch_size
index-lt zero vpn l = omega arith
index-lt (suc n) vpn l = omega arith

-- a stretch wholly inside the run is as long as its size, and its words are the run's
pub stretch-length : (words : List ℕ) (size n : ℕ) → size * n + size ≤ length words → length (stretch words size n) ≡ size
unfolding stretch
stretch-length words size n h = length-take-le size (drop (size * n) words) (rw (length-drop (size * n) words) (omega arith))

pub stretch-at : (words : List ℕ) (size n i : ℕ) → i < size → get_or (stretch words size n) i 0 ≡ get_or words (size * n + i) 0
unfolding stretch
stretch-at words size n i h = get_or-take size (drop (size * n) words) i 0 h ∙ get_or-drop (size * n) words i 0

-- no stretch that a word can name starts past 2 ^ 26 words
pub stretch-room : (size n w : ℕ) → size ≤ 1024 → n ≡ number w → size * n ≤ 67107840
unfolding number
stretch-room size n w h e = let l : n ≤ 65535 = omega arith in mul-le-mul h l

-- what a word that is not broken names is inside the run
pub sound-inside : (length size w : ℕ) → broken length size w ≡ false → size * number w + size ≤ length
unfolding broken inside
sound-inside length size w h = leb-true _ _ (not-false _ (or-neither (not (eqb (reserved w) 0) || eqb (number w) 0) _ h).1)

-- the test of a broken word, with the index of the stretch's last word
past_end : (a size length : ℕ) → 1 ≤ size → leb length (a + (size - 1)) ≡ not (leb (a + size) length)
past_end a size length h = go (leb (a + size) length) refl
  where
    go : (b : Bool) → leb (a + size) length ≡ b → leb length (a + (size - 1)) ≡ not b
    go true e = let l = leb-true (a + size) length e in lt-leb length (a + (size - 1)) (omega arith)
    go false e = let l = leb-false (a + size) length e in le-leb length (a + (size - 1)) (omega arith)

pub broken-last : (length size w n : ℕ) → 1 ≤ size → n ≡ number w
    → not (eqb (w / 65536 % 32768) 0) || eqb n 0 || leb length (size * n + (size - 1)) ≡ broken length size w
unfolding broken inside reserved
broken-last length size w n h e = rw (e, past_end (size * number w) size length h)
