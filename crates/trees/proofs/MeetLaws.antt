-- Two trees meet by their stretches' numbers exactly where a word lies in both. Assumes nothing.
use Prim.Native.Nat.{ℕ, ◌+◌, ◌*◌, ◌/◌, ◌≤◌, ◌<◌}
use mathlib.Core.Path.{◌≡◌, refl, sym, ap, ◌∙◌, subst}
use mathlib.Core.Logic.{◌⊎◌, inl, inr, ⊎_elim}
use mathlib.Core.Bool.{Bool, true, false, not, ◌&&◌, ◌||◌}
use mathlib.Core.List.{List}
use native.Mathlib.Omega.{arith}
use lib.ListN.{length, get_or}
use lib.Dec.{eqb}
use borrow.Author.Tests.{eqb-true, eq-eqb}
use Rattle.runs.specs.Counts.{any}
use Rattle.runs.proofs.Bools.{both, and_both, or-either, or_left, or_right, same_test}
use Rattle.runs.proofs.Counts.{any_at, any-from, any_same}
use Rattle.page_table.specs.Words.{number}
use Rattle.page_table.specs.Stretches.{stretch_size, directory_word}
use Rattle.page_table.specs.Reads.{leads_on}
use Rattle.reach.proofs.LinkLaws.{leads-fits}
use Rattle.trees.specs.Trees.{names_table, also_named, shares_table, meets, meets_root, met}
use Rattle.trees.specs.Meeting.{lies_in, MetWords}
use Rattle.trees.proofs.Apart.{names-from, names-told}

module _ (words : List ℕ) (root i : ℕ) where
  -- where a word lies that lies in a stretch of a root
  pub lies-told : lies_in words root i ≡ true
      → (leads_on (length words) 1 (get_or words root 0) ≡ true)
      × ((number (get_or words root 0) ≡ i / 512) ⊎ (names_table words (number (get_or words root 0)) 512 (i / 1024) ≡ true))
  unfolding lies_in
  lies-told h =
      let s = both (leads_on (length words) 1 (get_or words root 0))
      (eqb (number (get_or words root 0)) (i / 512) || names_table words (number (get_or words root 0)) 512 (i / 1024)) h in (
        s.0,
        ⊎_elim (λ e. inl (eqb-true (number (get_or words root 0)) (i / 512) e)) inr
            (or-either (eqb (number (get_or words root 0)) (i / 512)) (names_table words (number (get_or words root 0)) 512 (i / 1024)) s.1),
      )

  -- and the other way round
  module _ (on : leads_on (length words) 1 (get_or words root 0) ≡ true) where
    pub in-directory : number (get_or words root 0) ≡ i / 512 → lies_in words root i ≡ true
    unfolding lies_in
    in-directory e =
        and_both on (or_left (names_table words (number (get_or words root 0)) 512 (i / 1024))
        (eq-eqb (number (get_or words root 0)) (i / 512) e))

    pub in_table : (t : ℕ) → names_table words (number (get_or words root 0)) 512 t ≡ true → t ≡ i / 1024 → lies_in words root i ≡ true
    unfolding lies_in
    in_table t named e =
        and_both on (or_right (eqb (number (get_or words root 0)) (i / 512))
        (subst (λ (k : ℕ). names_table words (number (get_or words root 0)) 512 k ≡ true) e named))

-- the stretches of words that lead on stand in the run
directory-room : (len w : ℕ) → leads_on len 1 w ≡ true → 512 * number w + 512 ≤ len
unfolding stretch_size
directory-room len w h = leads-fits len 1 w h

table-room : (len w : ℕ) → leads_on len 0 w ≡ true → 1024 * number w + 1024 ≤ len
unfolding stretch_size
table-room len w h = leads-fits len 0 w h

-- the ways in which two directories meet
module _ (words : List ℕ) (d e : ℕ) where
  by-same : d ≡ e → meets words d e ≡ true
  unfolding meets
  by-same h =
      or_left (shares_table words d e)
      (or_left (names_table words e 512 (d / 2)) (or_left (names_table words d 512 (e / 2)) (eq-eqb d e h)))

  by-own : names_table words d 512 (e / 2) ≡ true → meets words d e ≡ true
  unfolding meets
  by-own h = or_left (shares_table words d e) (or_left (names_table words e 512 (d / 2)) (or_right (eqb d e) h))

  by-other : names_table words e 512 (d / 2) ≡ true → meets words d e ≡ true
  unfolding meets
  by-other h = or_left (shares_table words d e) (or_right (eqb d e || names_table words d 512 (e / 2)) h)

  by-table : (t : ℕ) → names_table words d 512 t ≡ true → names_table words e 512 t ≡ true → meets words d e ≡ true
  unfolding meets shares_table also_named
  by-table t own other =
      let s = names-told words e 512 t other in
      or_right (eqb d e || names_table words d 512 (e / 2) || names_table words e 512 (d / 2))
      (any-from (λ j. leads_on (length words) 0 (directory_word words e j) && names_table words d 512 (number (directory_word words e j)))
      512 s.0 s.1
      (and_both s.2 (subst (λ (k : ℕ). names_table words d 512 k ≡ true) (sym s.3) own)))

  -- there are no others
  ways : (P : Type 0) → meets words d e ≡ true → (d ≡ e → P) → (names_table words d 512 (e / 2) ≡ true → P)
      → (names_table words e 512 (d / 2) ≡ true → P)
      → ((t : ℕ) → 1024 * t + 1024 ≤ length words → names_table words d 512 t ≡ true → names_table words e 512 t ≡ true → P) → P
  unfolding meets shares_table also_named
  ways P h same own other table =
      ⊎_elim
      (λ h₁. ⊎_elim (λ h₂. ⊎_elim (λ h₃. same (eqb-true d e h₃)) own (or-either (eqb d e) (names_table words d 512 (e / 2)) h₂)) other
      (or-either (eqb d e || names_table words d 512 (e / 2)) (names_table words e 512 (d / 2)) h₁))
      shared (or-either (eqb d e || names_table words d 512 (e / 2) || names_table words e 512 (d / 2)) (shares_table words d e) h)
    where
      shared : shares_table words d e ≡ true → P
      shared m =
          let s = any_at (λ j. leads_on (length words) 0 (directory_word words e j)
          && names_table words d 512 (number (directory_word words e j))) 512 m in
          let w : ℕ = directory_word words e s.0 in
          let parts = both (leads_on (length words) 0 w) (names_table words d 512 (number w)) s.2 in
          table (number w) (table-room (length words) w parts.0) parts.1
          (names-from words e 512 (number w) s.0 s.1 parts.0 refl)

module _ (words : List ℕ) (id r : ℕ) (own : leads_on (length words) 1 (get_or words id 0) ≡ true)
    (other : leads_on (length words) 1 (get_or words r 0) ≡ true) where
  abbrev d : ℕ
  d = number (get_or words id 0)

  abbrev e : ℕ
  e = number (get_or words r 0)

  -- directories that meet have a word of the run in common
  pub meet-word : meets words d e ≡ true → (i : ℕ) × (i < length words) × (lies_in words id i ≡ true) × (lies_in words r i ≡ true)
  meet-word h =
      let here = directory-room (length words) (get_or words id 0) own in
      let there = directory-room (length words) (get_or words r 0) other in
      ways words d e ((i : ℕ) × (i < length words) × (lies_in words id i ≡ true) × (lies_in words r i ≡ true)) h
      (λ same.
      (512 * d, omega arith, in-directory words id (512 * d) own (omega arith), in-directory words r (512 * d) other (omega arith)))
      (λ n.
      (512 * e, omega arith, in_table words id (512 * e) own (e / 2) n (omega arith), in-directory words r (512 * e) other (omega arith)))
      (λ n.
      (512 * d, omega arith, in-directory words id (512 * d) own (omega arith), in_table words r (512 * d) other (d / 2) n (omega arith)))
      (λ t fits m n.
      (1024 * t, omega arith, in_table words id (1024 * t) own t m (omega arith), in_table words r (1024 * t) other t n (omega arith)))

  -- and where they have one, they meet
  pub word-meet : (i : ℕ) → lies_in words id i ≡ true → lies_in words r i ≡ true → meets words d e ≡ true
  word-meet i mine yours =
      ⊎_elim
      (λ (a : d ≡ i / 512). ⊎_elim (λ (b : e ≡ i / 512). by-same words d e (a ∙ sym b)) (λ b. by-other words d e (up e d a b)) there)
      (λ a. ⊎_elim (λ (b : e ≡ i / 512). by-own words d e (up d e b a)) (λ b. by-table words d e (i / 1024) a b) there)
      (lies-told words id i mine).1
    where
      there : (e ≡ i / 512) ⊎ (names_table words e 512 (i / 1024) ≡ true)
      there = (lies-told words r i yours).1

      up : (f g : ℕ) → g ≡ i / 512 → names_table words f 512 (i / 1024) ≡ true → names_table words f 512 (g / 2) ≡ true
      up f g at named = let q : i / 1024 ≡ g / 2 = omega arith in subst (λ (k : ℕ). names_table words f 512 k ≡ true) q named

-- a root meets the identification's tree by numbers exactly where one word lies in both
root-words : (words : List ℕ) (id r : ℕ) → leads_on (length words) 1 (get_or words id 0) ≡ true
    → leads_on (length words) 1 (get_or words r 0) && meets words (number (get_or words id 0)) (number (get_or words r 0))
    ≡ any (λ i. lies_in words id i && lies_in words r i) (length words)
root-words words id r own =
    same_test (leads_on (length words) 1 (get_or words r 0) && meets words (number (get_or words id 0)) (number (get_or words r 0)))
    (any (λ i. lies_in words id i && lies_in words r i) (length words))
    (λ h.
    let s = both (leads_on (length words) 1 (get_or words r 0)) (meets words (number (get_or words id 0)) (number (get_or words r 0))) h in
    let w = meet-word words id r own s.0 s.1 in
    any-from (λ i. lies_in words id i && lies_in words r i) (length words) w.0 w.1 (and_both w.2 w.3))
    (λ h.
    let s = any_at (λ i. lies_in words id i && lies_in words r i) (length words) h in
    let w = both (lies_in words id s.0) (lies_in words r s.0) s.2 in
    let other = (lies-told words r s.0 w.1).0 in
    and_both other (word-meet words id r own other s.0 w.0 w.1))

pub met-words : MetWords
unfolding MetWords met meets_root
met-words words id own =
    any_same (λ r. not (eqb r id) && leads_on (length words) 1 (get_or words r 0)
    && meets words (number (get_or words id 0)) (number (get_or words r 0)))
    (λ r. not (eqb r id) && any (λ i. lies_in words id i && lies_in words r i) (length words)) 64
    (λ r l. and_assoc (not (eqb r id)) (leads_on (length words) 1 (get_or words r 0))
    (meets words (number (get_or words id 0)) (number (get_or words r 0))) ∙ ap (λ (b : Bool). not (eqb r id) && b) (root-words words id r own))
  where
    and_assoc : (a b c : Bool) → a && b && c ≡ a && (b && c)
    and_assoc true b c = refl
    and_assoc false b c = refl
