-- What number 12 tells of a tree that passes it: its words stand apart. Assumes nothing.
use Prim.Native.Nat.{ℕ, ◌/◌, ◌<◌}
use mathlib.Core.Path.{◌≡◌, sym, ap, ◌∙◌, subst}
use mathlib.Core.Bool.{Bool, true, false, cond, not, ◌&&◌}
use mathlib.Core.List.{List}
use lib.ListN.{length, get_or}
use borrow.Author.Tests.{not-true}
use Rattle.runs.proofs.Bools.{clash, both, and_both, second-false}
use Rattle.runs.proofs.Counts.{any_at, any-from, any_none}
use Rattle.page_table.specs.Words.{present, number}
use Rattle.page_table.specs.Stretches.{stretch_size, broken, directory_word}
use Rattle.page_table.specs.Reads.{leads_on}
use Rattle.reach.specs.Reach.{leads_to}
use Rattle.reach.proofs.LeafLaws.{leads-to, leads-number}
use Rattle.trees.specs.Trees.{also_named, names_table, has_broken, names_twice, overlaps, met, apart, tree_fits}

pub record Apart (words : List ℕ) (d : ℕ) : Type 0 where
  -- a present word of the directory leads on
  pub sound : (j : ℕ) → j < 512 → present (directory_word words d j) ≡ true → leads_on (length words) 0 (directory_word words d j) ≡ true
  -- the directory stands in none of its tables
  pub beside : (j : ℕ) → j < 512 → leads_on (length words) 0 (directory_word words d j) ≡ true → number (directory_word words d j) ≡ d / 2 → ⊥
  -- and no two of its words lead on to one table
  pub distinct : (j k : ℕ) → j < 512 → k < j → leads_on (length words) 0 (directory_word words d j) ≡ true
      → leads_on (length words) 0 (directory_word words d k) ≡ true → number (directory_word words d k) ≡ number (directory_word words d j) → ⊥

-- a table is named by a word that leads on to it, and only so
pub names-told : (words : List ℕ) (d n t : ℕ) → names_table words d n t ≡ true
    → (k : ℕ) × (k < n) × (leads_on (length words) 0 (directory_word words d k) ≡ true) × (number (directory_word words d k) ≡ t)
unfolding names_table
names-told words d n t h =
    let s = any_at (λ j. leads_to (length words) 0 (directory_word words d j) t) n h in
    let l = leads-number (length words) 0 (directory_word words d s.0) t s.2 in
    (s.0, s.1, l.0, l.1)

pub names-from : (words : List ℕ) (d n t k : ℕ) → k < n → leads_on (length words) 0 (directory_word words d k) ≡ true
    → number (directory_word words d k) ≡ t → names_table words d n t ≡ true
unfolding names_table
names-from words d n t k l h e =
    any-from (λ j. leads_to (length words) 0 (directory_word words d j) t) n k l
    (subst (λ (x : ℕ). leads_to (length words) 0 (directory_word words d k) x ≡ true) e
    (leads-to (length words) 0 (directory_word words d k) h))

pub apart-told : (words : List ℕ) (id d : ℕ) → apart words id d ≡ true → Apart words d
unfolding apart has_broken names_twice overlaps also_named leads_on
apart-told words id d h =
    let one = (both (not (has_broken words d) && not (names_twice words d) && not (overlaps words d)) (not (met words id d)) h).0 in
    let two = both (not (has_broken words d) && not (names_twice words d)) (not (overlaps words d)) one in
    let three = both (not (has_broken words d)) (not (names_twice words d)) two.0 in
    record {
      sound = λ j l here.
          and_both here (ap not (second-false (present (directory_word words d j))
          (broken (length words) (stretch_size 0) (directory_word words d j))
          (any_none (λ k. present (directory_word words d k) && broken (length words) (stretch_size 0) (directory_word words d k)) 512 j
          (not-true (has_broken words d) three.0) l) here));
      beside = λ j l leads e. clash (names-from words d 512 (d / 2) j l leads e) (not-true (overlaps words d) two.1);
      distinct = λ j k l less leads leads-k e.
          clash (names-from words d j (number (directory_word words d j)) k less leads-k e)
          (second-false (leads_on (length words) 0 (directory_word words d j)) (names_table words d j (number (directory_word words d j)))
          (any_none (λ x. also_named words (directory_word words d x) d x) 512 j
          (not-true (names_twice words d) three.1) l) leads);
    }

-- and no other root's stretches meet it
pub apart-alone : (words : List ℕ) (id d : ℕ) → apart words id d ≡ true → met words id d ≡ false
unfolding apart
apart-alone words id d h =
    not-true (met words id d)
    (both (not (has_broken words d) && not (names_twice words d) && not (overlaps words d)) (not (met words id d)) h).1

-- a tree that passes number 12 and has a directory stands apart
pub fits-apart : (words : List ℕ) (id : ℕ) → leads_on (length words) 1 (get_or words id 0) ≡ true → tree_fits words id ≡ true
    → apart words id (number (get_or words id 0)) ≡ true
unfolding tree_fits leads_on
fits-apart words id leads fits =
    let w = get_or words id 0 in
    let here = (both (present w) (not (broken (length words) (stretch_size 1) w)) leads).0 in
    (both (not (broken (length words) (stretch_size 1) w)) (apart words id (number w))
    (sym (ap (λ (b : Bool). cond b (not (broken (length words) (stretch_size 1) w) && apart words id (number w)) true) here) ∙ fits)).1
