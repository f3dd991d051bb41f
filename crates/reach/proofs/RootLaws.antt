-- The links when a root's word comes or goes. Assumes nothing.
use Prim.Native.Nat.{ℕ, ◌+◌, ◌*◌, ◌/◌, ◌≤◌}
use mathlib.Core.Path.{◌≡◌, refl, sym, ap, subst, ◌∙◌}
use mathlib.Core.Logic.{⊎_elim}
use mathlib.Core.Bool.{Bool, true, false, cond, not, ◌&&◌, ◌||◌}
use mathlib.Core.List.{List}
use native.Mathlib.Omega.{arith}
use lib.ListN.{length, get_or}
use lib.Dec.{eqb}
use borrow.Author.Tests.{eqb-true, eqb-false, eq-eqb, ne_eqb, not-true, not-false}
use Rattle.runs.specs.Counts.{any}
use Rattle.runs.proofs.Bools.{is_false, clash, both, and_both, or-either, or_left, or_right, same_test, or-false}
use Rattle.runs.proofs.Counts.{any_at}
use Rattle.page_table.specs.Words.{number}
use Rattle.page_table.specs.Stretches.{tables_fit, stretch_size}
use Rattle.page_table.specs.Reads.{leads_on}
use Rattle.page_table.proofs.Stretches.{fit-bounds}
use Rattle.reach.specs.Reach.{leads_to, links_to}
use Rattle.reach.specs.Index.{links_from}
use Rattle.reach.specs.Relinking.{reached_beside, reached_with, root_links, relinked_first, RelinksAll}
use Rattle.reach.proofs.LeafLaws.{leads-number, leads-numbered}
use Rattle.reach.proofs.LinkLaws.{links-same, leads-fits, passing, first-links, first_fits, passing-none, passing-all}

-- two tests of directories that agree
by-directory : (words : List ℕ) (p q : ℕ → Bool) → ((d : ℕ) → p d ≡ q d)
    → links_from (λ j. p (j / 512)) words ≡ links_from (λ j. q (j / 512)) words
by-directory words p q h =
    links-same (λ j. p (j / 512)) (λ j. q (j / 512)) words words refl (λ j t l. ap (λ (b : Bool). b && links_to words j t) (h (j / 512)))

-- no word leads on to number 0
leads-zero : (len levels w : ℕ) → leads_to len levels w 0 ≡ false
leads-zero len levels w =
    is_false (leads_to len levels w 0) (λ h. let l = leads-number len levels w 0 h in leads-numbered len levels w l.0 l.1)

beside-zero : (words : List ℕ) (root : ℕ) → reached_beside words root 0 ≡ false
unfolding reached_beside
beside-zero words root =
    is_false (any (λ r. not (eqb r root) && leads_to (length words) 1 (get_or words r 0) 0) 64)
    (λ h.
    let s = any_at (λ r. not (eqb r root) && leads_to (length words) 1 (get_or words r 0) 0) 64 h in
    clash (both (not (eqb s.0 root)) (leads_to (length words) 1 (get_or words s.0 0) 0) s.2).1
    (leads-zero (length words) 1 (get_or words s.0 0)))

module _ (words : List ℕ) (root w : ℕ) where
  pub with-zero : reached_with words root w 0 ≡ false
  unfolding reached_with
  with-zero = rw (beside-zero words root) (leads-zero (length words) 1 w)

  -- a root's word that leads nowhere, or to a directory that another root reaches, makes no difference
  same-root : (leads_on (length words) 1 w ≡ true → reached_beside words root (number w) ≡ true)
      → (a b : Bool) → root_links a words root w ≡ root_links b words root w
  unfolding root_links reached_with
  same-root h = by
    where
      same : (d : ℕ) → reached_beside words root d || leads_to (length words) 1 w d ≡ reached_beside words root d
      same d =
          same_test (reached_beside words root d || leads_to (length words) 1 w d) (reached_beside words root d)
          (λ t. ⊎_elim (λ (l : reached_beside words root d ≡ true). l)
          (λ (r : leads_to (length words) 1 w d ≡ true).
          let n = leads-number (length words) 1 w d r in
          subst (λ (k : ℕ). reached_beside words root k ≡ true) n.1 (h n.0))
          (or-either (reached_beside words root d) (leads_to (length words) 1 w d) t))
          (λ t. or_left (leads_to (length words) 1 w d) t)

      both_ways : root_links true words root w ≡ root_links false words root w
      both_ways = by-directory words (λ d. reached_beside words root d || leads_to (length words) 1 w d) (reached_beside words root) same

      by : (a b : Bool) → root_links a words root w ≡ root_links b words root w
      by true true = refl
      by true false = both_ways
      by false true = sym both_ways
      by false false = refl

  pub root-nowhere : (up : Bool) → leads_on (length words) 1 w ≡ false → root_links (not up) words root w ≡ root_links up words root w
  root-nowhere up h = same-root (λ on. absurd (clash on h)) (not up) up

  pub root-shared : (up : Bool) → reached_beside words root (number w) ≡ true → root_links (not up) words root w ≡ root_links up words root w
  root-shared up h = same-root (λ on. h) (not up) up

  -- else it decides alone whether its directory is reached
  module _ (on : leads_on (length words) 1 w ≡ true) (alone : reached_beside words root (number w) ≡ false) where
    decides : (b : Bool) → root_links b words root w ≡ links_from (λ j. cond (eqb (j / 512) (number w)) b (reached_beside words root (j /
        512))) words
    unfolding root_links reached_with leads_to
    decides b = go b
      where
        with_it : (d : ℕ) (e : Bool) → eqb d (number w) ≡ e
            → reached_beside words root d || (leads_on (length words) 1 w && eqb (number w) d) ≡ cond e true (reached_beside words root d)
        with_it d true h =
            or_right (reached_beside words root d) (and_both on (eq-eqb (number w) d (sym (eqb-true d (number w) h))))
        with_it d false h =
            let ne : eqb (number w) d ≡ false = ne_eqb (number w) d (λ q. eqb-false d (number w) h (sym q)) in
            rw (on, ne) (or-false (reached_beside words root d))

        without : (d : ℕ) (e : Bool) → eqb d (number w) ≡ e → reached_beside words root d ≡ cond e false (reached_beside words root d)
        without d true h = subst (λ (k : ℕ). reached_beside words root k ≡ false) (sym (eqb-true d (number w) h)) alone
        without d false h = refl

        go : (b : Bool) → root_links b words root w
            ≡ links_from (λ j. cond (eqb (j / 512) (number w)) b (reached_beside words root (j / 512))) words
        go true =
            by-directory words (λ d. reached_beside words root d || (leads_on (length words) 1 w && eqb (number w) d))
            (λ d. cond (eqb d (number w)) true (reached_beside words root d)) (λ d. with_it d (eqb d (number w)) refl)
        go false =
            by-directory words (reached_beside words root)
            (λ d. cond (eqb d (number w)) false (reached_beside words root d)) (λ d. without d (eqb d (number w)) refl)

    passes : (up : Bool) (k : ℕ) (b : Bool)
        → ((j : ℕ) → passing words up (reached_beside words root) (number w) k j
        ≡ cond (eqb (j / 512) (number w)) b (reached_beside words root (j / 512)))
        → root_links b words root w ≡ links_from (passing words up (reached_beside words root) (number w) k) words
    passes up k b h =
        decides b
        ∙ links-same (λ j. cond (eqb (j / 512) (number w)) b (reached_beside words root (j / 512)))
        (passing words up (reached_beside words root) (number w) k) words words refl
        (λ j t l. ap (λ (c : Bool). c && links_to words j t) (sym (h j)))

    fits : 512 * number w + 512 ≤ length words
    unfolding stretch_size
    fits = leads-fits (length words) 1 w on

    module _ (up : Bool) (links : List ℕ) (e : links ≡ root_links (not up) words root w) where
      begun : links ≡ links_from (passing words up (reached_beside words root) (number w) 0) words
      begun = e ∙ passes up 0 (not up) (passing-none words up (reached_beside words root) (number w))

      pub root-fits : tables_fit words ≡ true → (512 * number w + 512 ≤ length words) × RelinksAll up words (number w) links
      root-fits short = (
        fits,
        subst (RelinksAll up words (number w)) (sym begun)
            (first_fits words up (reached_beside words root) (number w) fits (fit-bounds words short).1),
      )

      pub root-shifts : relinked_first up words (number w) 512 links ≡ root_links up words root w
      root-shifts =
          ap (relinked_first up words (number w) 512) begun
          ∙ first-links words up (reached_beside words root) (number w) fits 512 (omega arith)
          ∙ sym (passes up 512 up (passing-all words up (reached_beside words root) (number w)))

-- a root other than `root` leads on to directory d, by its number
unfoldable pub beside_at : (words : List ℕ) (root d r : ℕ) → Bool
beside_at words root d r = not (eqb r root) && leads_to (length words) 1 (get_or words r 0) d

pub beside-any : (words : List ℕ) (root d : ℕ) → any (beside_at words root d) 64 ≡ reached_beside words root d
unfolding reached_beside beside_at
beside-any words root d = refl

-- the ways through the shift of a root's directory, in the code's words
module _ (words : List ℕ) (root w : ℕ) (up : Bool) (links : List ℕ) (e : links ≡ root_links (not up) words root w) (on : Bool)
    (leads : on ≡ leads_on (length words) 1 w) where
  pub stays-nowhere : not on ≡ true → links ≡ root_links up words root w
  stays-nowhere h = e ∙ root-nowhere words root w up (sym leads ∙ not-true on h)

  module _ (h : not on ≡ false) (d : ℕ) (numbered : d ≡ number w) (beside : Bool) (shared : beside ≡ reached_beside words root d) where
    pub stays-shared : beside ≡ true → links ≡ root_links up words root w
    stays-shared b = e ∙ root-shared words root w up (sym (ap (reached_beside words root) numbered) ∙ sym shared ∙ b)

    alone : beside ≡ false → reached_beside words root (number w) ≡ false
    alone b = sym (ap (reached_beside words root) numbered) ∙ sym shared ∙ b

    pub shift_fits : beside ≡ false → tables_fit words ≡ true → (512 * d + 512 ≤ length words) × RelinksAll up words d links
    shift_fits b fit =
        subst (λ (n : ℕ). (512 * n + 512 ≤ length words) × RelinksAll up words n links) (sym numbered)
        (root-fits words root w (sym leads ∙ not-false on h) (alone b) up links e fit)

    pub shift-all : beside ≡ false → (next : List ℕ) → next ≡ relinked_first up words d 512 links → next ≡ root_links up words root w
    shift-all b next q =
        q ∙ ap (λ (n : ℕ). relinked_first up words n 512 links) numbered
        ∙ root-shifts words root w (sym leads ∙ not-false on h) (alone b) up links e

pub root-off : (words : List ℕ) (root a b : ℕ) → root_links false words root a ≡ root_links false words root b
unfolding root_links
root-off words root a b = refl
