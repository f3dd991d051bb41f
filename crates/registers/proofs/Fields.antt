-- Laws of the register fields, over any place. Assumes nothing.
use Prim.Native.Nat.{ℕ, ◌^◌, ◌<◌}
use mathlib.Core.Path.{◌≡◌, refl, sym, ap, ◌∙◌, subst}
use mathlib.Core.Logic.{◌≢◌}
use mathlib.Core.Bool.{true}
use mathlib.Core.List.{List, [], ◌∷◌}
use native.Mathlib.Nat.{zero-add}
use native.Mathlib.Decide.{ℕ_discrete}
use lib.Dec.{ltb, eqb}
use lib.ListN.{length, get_or, set, length-set}
use lib.Seq.{get_or-set_same, get_or-set_other, set-set, ext_get_or}
use borrow.Author.Tests.{ltb-true, eqb-true}
use Rattle.runs.specs.Counts.{all}
use Rattle.runs.specs.Pieces.{tabulate}
use Rattle.runs.proofs.Pieces.{tab-at}
use Rattle.runs.proofs.Counts.{all-at, all_from}
use Rattle.registers.specs.Fields.{to_words, from_words, field, put, widths, fits_at, registers_fit}
use Rattle.registers.specs.declared.Registers.{Registers}

-- the code's table of limits is the table of widths
unfoldable pub limits : List ℕ
limits = 65536 ∷ 8 ∷ 2 ∷ 4294967296 ∷ 4294967296 ∷ 64 ∷ 64 ∷ 33554432 ∷ 8388608 ∷ 2 ∷ 32 ∷ []

pub limit-at : (place value : ℕ) → place < 11 → ltb value (get_or limits place 0) ≡ fits_at place value
unfolding fits_at widths all limits
limit-at place value h =
    ap (ltb value) (eqb-true (get_or limits place 0) (2 ^ get_or widths place 0)
    (all-at (λ k. eqb (get_or limits k 0) (2 ^ get_or widths k 0)) 11 place refl h))

-- what registers that fit tell of each field
pub fits-place : (r : Registers) (place : ℕ) → registers_fit r ≡ true → place < 11 → field r place < 2 ^ get_or widths place 0
unfolding registers_fit fits_at
fits-place r place h l = ltb-true (field r place) (2 ^ get_or widths place 0) (all-at (λ p. fits_at p (field r p)) 11 place h l)

pub words-length : (r : Registers) → length (to_words r) ≡ 11
unfolding to_words
words-length r = refl

-- words and fields are the same thing
pub from-to : (r : Registers) → from_words (to_words r) ≡ r
unfolding from_words to_words
from-to r = refl

pub to-from : (words : List ℕ) → length words ≡ 11 → to_words (from_words words) ≡ words
unfolding from_words to_words
to-from words e = ext_get_or 0 (tabulate at 0 11) words (sym e) (λ i l. tab-at at 0 11 i l ∙ ap at (zero-add i))
  where
    at : ℕ → ℕ
    at i = get_or words i 0

-- a field after one is replaced
pub put_same : (r : Registers) (place value : ℕ) → place < 11 → field (put r place value) place ≡ value
unfolding field put
put_same r place value l =
    rw (to-from (set (to_words r) place value) (length-set (to_words r) place value ∙ words-length r))
    (get_or-set_same (to_words r) place value 0 (subst (λ (n : ℕ). place < n) (sym (words-length r)) l))

pub put_other : (r : Registers) (place other value : ℕ) → other ≢ place → field (put r place value) other ≡ field r other
unfolding field put
put_other r place other value d =
    rw (to-from (set (to_words r) place value) (length-set (to_words r) place value ∙ words-length r))
    (get_or-set_other (to_words r) place other value 0 d)

pub put-again : (r : Registers) (place value next : ℕ) → put (put r place value) place next ≡ put r place next
unfolding put
put-again r place value next =
    rw (to-from (set (to_words r) place value) (length-set (to_words r) place value ∙ words-length r))
    (ap from_words (set-set (to_words r) place value next))

-- registers that fit still do after a value that fits its place
pub put-fits : (r : Registers) (place value : ℕ) → registers_fit r ≡ true → fits_at place value ≡ true
    → registers_fit (put r place value) ≡ true
unfolding registers_fit
put-fits r place value h v = all_from (λ p. fits_at p (field (put r place value) p)) 11 each
  where
    each : (p : ℕ) → p < 11 → fits_at p (field (put r place value) p) ≡ true
    each p l = elim (ℕ_discrete p place) [ yes e ↦ same e l | no d ↦ other d l ]
      where
        same : p ≡ place → p < 11 → fits_at p (field (put r place value) p) ≡ true
        same e k = rw e (ap (fits_at place) (put_same r place value (rw e at k)) ∙ v)

        other : (p ≡ place → ⊥) → p < 11 → fits_at p (field (put r place value) p) ≡ true
        other d k = ap (fits_at p) (put_other r place p value d) ∙ all-at (λ q. fits_at q (field r q)) 11 p h k
