-- A pass leaves a tree that passes number 12's part on directories and tables again. Assumes nothing.
use Prim.Native.Nat.{ℕ, ◌/◌, ◌≤◌, ◌<◌}
use mathlib.Core.Path.{◌≡◌, refl, sym, ap, ap₂, ◌∙◌}
use mathlib.Core.Bool.{Bool, true, false, cond, not, ◌&&◌, ◌||◌}
use mathlib.Core.List.{List}
use native.Mathlib.Omega.{arith}
use lib.ListN.{length, get_or}
use lib.Dec.{eqb}
use borrow.Author.Tests.{not-true, eqb-false}
use Rattle.runs.specs.Counts.{any}
use Rattle.runs.proofs.Bools.{is_false, clash, both, and_both}
use Rattle.runs.proofs.Counts.{any_at, any-from, any_same}
use Rattle.page_table.specs.Words.{present, number}
use Rattle.page_table.specs.Stretches.{stretch_size, broken, directory_word}
use Rattle.page_table.specs.Reads.{leads_on}
use Rattle.reach.specs.Reach.{leads_to}
use Rattle.store.specs.Rewrite.{written}
use Rattle.trees.specs.Trees.{names_table, also_named, has_broken, names_twice, overlaps, shares_table, meets, meets_root, met, apart, tree_fits}
use Rattle.collector.specs.Visits.{pass_leaves, aged_puts}
use Rattle.collector.proofs.Puts.{pass_words}
use Rattle.trees.proofs.Apart.{Apart, apart-told, apart-alone, fits-apart}
use Rattle.passes.proofs.OtherRoots.{other_word}
use Rattle.collector.proofs.Passes.{pass-length, pass-root, pass-word}

-- directories whose words are the same in both runs
module _ (a b : List ℕ) (long : length a ≡ length b) where
  abbrev Same : ℕ → Type 0
  Same x = (j : ℕ) → j < 512 → directory_word a x j ≡ directory_word b x j

  names_same : (x n t : ℕ) → n ≤ 512 → Same x → names_table a x n t ≡ names_table b x n t
  unfolding names_table
  names_same x n t l s =
      any_same (λ j. leads_to (length a) 0 (directory_word a x j) t) (λ j. leads_to (length b) 0 (directory_word b x j) t) n
      (λ j u. ap₂ (λ (k w : ℕ). leads_to k 0 w t) long (s j (omega arith)))

  leads-same : (x j : ℕ) → j < 512 → Same x → leads_on (length a) 0 (directory_word a x j) ≡ leads_on (length b) 0 (directory_word b x j)
  leads-same x j l s = ap₂ (λ (k w : ℕ). leads_on k 0 w) long (s j l)

  broken-same : (x : ℕ) → Same x → has_broken a x ≡ has_broken b x
  unfolding has_broken
  broken-same x s =
      any_same (λ j. present (directory_word a x j) && broken (length a) (stretch_size 0) (directory_word a x j))
      (λ j. present (directory_word b x j) && broken (length b) (stretch_size 0) (directory_word b x j)) 512
      (λ j l. ap₂ (λ (k w : ℕ). present w && broken k (stretch_size 0) w) long (s j l))

  -- word j of directory e, looked for among the first n words of directory x
  also-same : (e j x n : ℕ) → j < 512 → n ≤ 512 → Same e → Same x
      → also_named a (directory_word a e j) x n ≡ also_named b (directory_word b e j) x n
  unfolding also_named
  also-same e j x n l m t s =
      ap₂ ◌&&◌ (leads-same e j l t)
      (names_same x n (number (directory_word a e j)) m s ∙ ap (λ (w : ℕ). names_table b x n (number w)) (t j l))

  twice_same : (x : ℕ) → Same x → names_twice a x ≡ names_twice b x
  unfolding names_twice
  twice_same x s =
      any_same (λ j. also_named a (directory_word a x j) x j) (λ j. also_named b (directory_word b x j) x j) 512
      (λ j l. also-same x j x j l (omega arith) s s)

  overlap-same : (x : ℕ) → Same x → overlaps a x ≡ overlaps b x
  unfolding overlaps
  overlap-same x s = names_same x 512 (x / 2) (omega arith) s

  meets-same : (d e : ℕ) → Same d → Same e → meets a d e ≡ meets b d e
  unfolding meets shares_table
  meets-same d e s t =
      ap₂ ◌||◌ (ap₂ (λ (x y : Bool). eqb d e || x || y) (names_same d 512 (e / 2) (omega arith) s)
      (names_same e 512 (d / 2) (omega arith) t))
      (any_same (λ j. also_named a (directory_word a e j) d 512) (λ j. also_named b (directory_word b e j) d 512) 512
      (λ j l. also-same e j d 512 l (omega arith) t s))

module _ (words : List ℕ) (first size id : ℕ) (known : id < 64) (root : leads_on (length words) 1 (get_or words id 0) ≡ true)
    (fits : tree_fits words id ≡ true) where
  abbrev after : List ℕ
  after = pass_words words first size id

  abbrev d : ℕ
  d = number (get_or words id 0)

  long : length after ≡ length words
  long = pass-length words first size id root

  ok : apart words id (number (get_or words id 0)) ≡ true
  ok = fits-apart words id root fits

  own-apart : Apart words (number (get_or words id 0))
  own-apart = apart-told words id d ok

  not-met : met words id d ≡ false
  not-met = apart-alone words id d ok

  own_same : (j : ℕ) → j < 512 → directory_word after d j ≡ directory_word words d j
  own_same j l = pass-word words first size id root own-apart j l

  still-alone : met after id d ≡ false
  unfolding met meets_root
  still-alone = is_false (any (meets_root after id d) 64)
      (λ h.
      let s = any_at (meets_root after id d) 64 h in
      let r : ℕ = s.0 in
      let outer = both (not (eqb r id) && leads_on (length after) 1 (get_or after r 0)) (meets after d (number (get_or after r 0))) s.2 in
      let inner = both (not (eqb r id)) (leads_on (length after) 1 (get_or after r 0)) outer.0 in
      let same = pass-root words first size id root r s.1 in
      let leads : leads_on (length words) 1 (get_or words r 0) ≡ true = sym (ap₂ (λ (k w : ℕ). leads_on k 1 w) long same) ∙ inner.1 in
      let met-now = ap (λ (w : ℕ). meets after d (number w)) (sym same) ∙ outer.1 in
      clash (any-from (meets_root words id d) 64 r s.1
      (and_both (and_both inner.0 leads)
      (sym (meets-same after words long d (number (get_or words r 0)) own_same
      (other_word words first size id root fits r s.1 (eqb-false r id (not-true (eqb r id) inner.0)) leads)) ∙ met-now))) not-met)

  pub apart-again : apart after id d ≡ true
  unfolding apart
  apart-again =
      let one = (both (not (has_broken words d) && not (names_twice words d) && not (overlaps words d)) (not (met words id d)) ok).0 in
      and_both
      (ap₂ (λ (x y : Bool). not x && not y && not (overlaps after d)) (broken-same after words long d own_same)
      (twice_same after words long d own_same)
      ∙ ap (λ (z : Bool). not (has_broken words d) && not (names_twice words d) && not z) (overlap-same after words long d own_same) ∙ one)
      (ap not still-alone)

led : (words : List ℕ) (first size id : ℕ) → id < 64 → present (get_or words id 0) ≡ true
    → not (broken (length words) (stretch_size 1) (get_or words id 0)) ≡ true → tree_fits words id ≡ true
    → tree_fits (pass_words words first size id) id ≡ true
unfolding tree_fits leads_on
led words first size id known p b fits =
    let root : leads_on (length words) 1 (get_or words id 0) ≡ true = and_both p b in
    let same = pass-root words first size id root id known in
    let long = pass-length words first size id root in
    rw (same, long, p) (and_both b (apart-again words first size id known root fits))

unled : (words : List ℕ) (first size id : ℕ) → present (get_or words id 0) ≡ false → tree_fits (pass_words words first size id) id ≡ true
unfolding tree_fits pass_words pass_leaves aged_puts leads_on written
unled words first size id e = rw (e, e)

-- so the next pass is not refused for the tree
pub fits-again : (words : List ℕ) (first size id : ℕ) → id < 64 → tree_fits words id ≡ true → tree_fits (pass_words words first size id) id
    ≡ true
unfolding tree_fits
fits-again words first size id known fits = by-present (present (get_or words id 0)) refl fits
  where
    by-present : (p : Bool) → present (get_or words id 0) ≡ p
        → cond p (not (broken (length words) (stretch_size 1) (get_or words id 0)) && apart words id (number (get_or words id 0))) true ≡ true
        → tree_fits (pass_words words first size id) id ≡ true
    by-present true e h =
        let parts = both (not (broken (length words) (stretch_size 1) (get_or words id 0))) (apart words id (number (get_or words id 0))) h in
        led words first size id known e parts.0 fits
    by-present false e h = unled words first size id e
