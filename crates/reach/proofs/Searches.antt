-- What `any` of an iterator answers, by the definitions' `any`: over the elements of a run, or over numbers. Assumes nothing.
use Prim.Native.Nat.{ℕ, ◌+◌, ◌*◌, ◌≤◌, ◌<◌}
use mathlib.Core.Path.{◌≡◌, sym, ap, ◌∙◌}
use mathlib.Core.Bool.{Bool, true}
use mathlib.Core.List.{List}
use native.Mathlib.Nat.{zero-add}
use native.Mathlib.Omega.{arith}
use lib.ListN.{length, get_or, take, drop}
use Rattle.std.specs.List.{list_any, range_with_len}
use Rattle.std.proofs.lemmas.List.{get_or-take, get_or-drop, length-take, length-drop}
use Rattle.std.proofs.lemmas.List.Folds.{Any-from_list_any, list_any_at}
use Rattle.std.proofs.lemmas.List.FromFn.{length-range_with_len, get_or-range_with_len}
use Rattle.std.proofs.lemmas.Grind.{get_or_default_zero}
use Rattle.runs.specs.Counts.{any}
use Rattle.runs.proofs.Bools.{same_test}
use Rattle.page_table.specs.Stretches.{stretch}
use Rattle.runs.proofs.Counts.{any_at, any-from, any_same}

-- the words of a directory, by their places there
module _ (words : List ℕ) (d : ℕ) where
  pub directory-long : 512 * d + 512 ≤ length words → length (stretch words 512 d) ≡ 512
  unfolding stretch
  directory-long l = simp (length-take, length-drop) (omega arith)

  pub directory-at : (k : ℕ) → k < 512 → get_or (stretch words 512 d) k 0 ≡ get_or words (512 * d + k) 0
  unfolding stretch
  directory-at k h = get_or-take 512 (drop (512 * d) words) k 0 h ∙ get_or-drop (512 * d) words k 0

-- a word that a loop is at stands in the directory at its place
pub directory-place : (words items : List ℕ) (d k : ℕ) → 512 * d + 512 ≤ length words → items ≡ stretch words 512 d → k < length items
    → (k < 512) × (get_or items k 0 ≡ get_or words (512 * d + k) 0)
directory-place words items d k long e l =
    let h : k < 512 = omega (arith, ap length e, directory-long words d long) in
    (h, rw e (directory-at words d k h))

module _ (p : ℕ → Bool) where
  -- over a run, by its indexes
  any-run : (xs : List ℕ) → list_any p xs ≡ any (λ j. p (get_or xs j 0)) (length xs)
  any-run xs = same_test (list_any p xs) (any (λ j. p (get_or xs j 0)) (length xs)) to back
    where
      to : list_any p xs ≡ true → any (λ j. p (get_or xs j 0)) (length xs) ≡ true
      to h =
          let s = Any-from_list_any p xs h in
          let e : get_or xs s.0 0 ≡ s.1 = sym (get_or_default_zero xs s.0 s.1 s.2) ∙ s.3 in
          any-from (λ j. p (get_or xs j 0)) (length xs) s.0 s.2 (ap p e ∙ s.4)

      back : any (λ j. p (get_or xs j 0)) (length xs) ≡ true → list_any p xs ≡ true
      back h = let s = any_at (λ j. p (get_or xs j 0)) (length xs) h in list_any_at p xs s.0 0 s.1 s.2

  -- over the numbers below n
  pub any_numbers : (n : ℕ) → list_any p (range_with_len 0 n) ≡ any p n
  any_numbers n =
      let long : length (range_with_len 0 n) ≡ n = length-range_with_len 0 n in
      any-run (range_with_len 0 n)
      ∙ ap (any (λ j. p (get_or (range_with_len 0 n) j 0))) long
      ∙ any_same (λ j. p (get_or (range_with_len 0 n) j 0)) p n (λ j h. ap p (get_or-range_with_len 0 n j 0 h ∙ zero-add j))

  -- over the first n words of a directory, and over all of them
  pub any_first : (words : List ℕ) (d n : ℕ) → 512 * d + 512 ≤ length words → n ≤ 512
      → list_any p (take n (stretch words 512 d)) ≡ any (λ j. p (get_or words (512 * d + j) 0)) n
  any_first words d n l few =
      let all : length (stretch words 512 d) ≡ 512 = directory-long words d l in
      let long : length (take n (stretch words 512 d)) ≡ n = simp length-take (omega arith) in
      any-run (take n (stretch words 512 d))
      ∙ ap (any (λ j. p (get_or (take n (stretch words 512 d)) j 0))) long
      ∙ any_same (λ j. p (get_or (take n (stretch words 512 d)) j 0)) (λ j. p (get_or words (512 * d + j) 0)) n
      (λ j h. ap p (get_or-take n (stretch words 512 d) j 0 h ∙ directory-at words d j (omega arith)))

  pub any_directory : (words : List ℕ) (d : ℕ) → 512 * d + 512 ≤ length words
      → list_any p (stretch words 512 d) ≡ any (λ j. p (get_or words (512 * d + j) 0)) 512
  any_directory words d l =
      any-run (stretch words 512 d)
      ∙ ap (any (λ j. p (get_or (stretch words 512 d) j 0))) (directory-long words d l)
      ∙ any_same (λ j. p (get_or (stretch words 512 d) j 0)) (λ j. p (get_or words (512 * d + j) 0)) 512 (λ j h. ap p (directory-at words d j h))
