-- The links after a store. Assumes nothing.
use Prim.Native.Nat.{ℕ, ◌/◌, ◌≤◌, ◌<◌}
use mathlib.Core.Path.{◌≡◌, refl, sym, ap, ap₂, subst, ◌∙◌}
use mathlib.Core.Logic.{⊎_elim}
use mathlib.Core.Bool.{Bool, true, false, not, ◌&&◌, ◌||◌}
use mathlib.Core.List.{List}
use native.Mathlib.Omega.{arith}
use lib.ListN.{length, get_or, set, length-set}
use lib.Seq.{get_or-set_same, get_or-set_other}
use lib.Dec.{eqb}
use borrow.Author.Tests.{eqb-true, eqb-false, eq-eqb, ne_eqb, not-true}
use Rattle.runs.specs.Counts.{any}
use Rattle.runs.proofs.Bools.{and-false, or-neither, both, and_both, or-either, or_left, or_right, same_test}
use Rattle.runs.proofs.Counts.{any_at, any-from, any_same}
use Rattle.page_table.specs.Stretches.{tables_fit}
use Rattle.page_table.specs.Reads.{leads_on}
use Rattle.page_table.proofs.Stretches.{fit-bounds}
use Rattle.reach.specs.Reach.{leads_to, directory_reached, links_to}
use Rattle.reach.specs.Index.{links_from, links_of}
use Rattle.reach.specs.Relinking.{reached_beside, reached_with, root_links, relinked, Relinks}
use Rattle.reach.proofs.LinkLaws.{links-same, links-toggle, toggle-fits}
use Rattle.reach.proofs.RootLaws.{with-zero}

-- the one number that is left out, or any other
pub by_number : (P : Type 0) (j i : ℕ) → (j ≡ i → P) → ((j ≡ i → ⊥) → P) → P
by_number P j i same other = go (eqb j i) refl
  where
    go : (b : Bool) → eqb j i ≡ b → P
    go true e = same (eqb-true j i e)
    go false e = other (eqb-false j i e)

-- where no root is left out
pub beside_none : (words : List ℕ) (d : ℕ) → reached_beside words 64 d ≡ directory_reached words d
unfolding reached_beside directory_reached
beside_none words d =
    any_same (λ r. not (eqb r 64) && leads_to (length words) 1 (get_or words r 0) d) (λ r. leads_to (length words) 1 (get_or words r 0) d) 64
    (λ r l. let e : eqb r 64 ≡ false = ne_eqb r 64 (λ q. omega arith) in rw e)

-- two runs that agree but for one word, which is w in the first
module _ (a words : List ℕ) (i w : ℕ) (long : length a ≡ length words) (here : get_or a i 0 ≡ w)
    (others : (r : ℕ) → (r ≡ i → ⊥) → get_or a r 0 ≡ get_or words r 0) where
  links-others : (j t : ℕ) → (j ≡ i → ⊥) → links_to a j t ≡ links_to words j t
  unfolding links_to
  links-others j t ne = rw (long, others j ne)

  -- the word is a root
  reached-with : i < 64 → (d : ℕ) → directory_reached a d ≡ reached_with words i w d
  unfolding directory_reached reached_with reached_beside
  reached-with root d =
      same_test (any (λ r. leads_to (length a) 1 (get_or a r 0) d) 64)
      (any (λ r. not (eqb r i) && leads_to (length words) 1 (get_or words r 0) d) 64 || leads_to (length words) 1 w d) to back
    where
      beside : Bool
      beside = any (λ r. not (eqb r i) && leads_to (length words) 1 (get_or words r 0) d) 64

      to : any (λ r. leads_to (length a) 1 (get_or a r 0) d) 64 ≡ true → beside || leads_to (length words) 1 w d ≡ true
      to h =
          let s = any_at (λ r. leads_to (length a) 1 (get_or a r 0) d) 64 h in
          by_number (beside || leads_to (length words) 1 w d ≡ true) s.0 i
          (λ e. or_right beside
          (subst (λ (n : ℕ). leads_to n 1 w d ≡ true) long
          (subst (λ (v : ℕ). leads_to (length a) 1 v d ≡ true) (ap (λ (r : ℕ). get_or a r 0) e ∙ here) s.2)))
          (λ ne. or_left (leads_to (length words) 1 w d)
          (any-from (λ r. not (eqb r i) && leads_to (length words) 1 (get_or words r 0) d) 64 s.0 s.1
          (and_both (ap not (ne_eqb s.0 i ne))
          (subst (λ (n : ℕ). leads_to n 1 (get_or words s.0 0) d ≡ true) long
          (subst (λ (v : ℕ). leads_to (length a) 1 v d ≡ true) (others s.0 ne) s.2)))))

      from-beside : beside ≡ true → any (λ r. leads_to (length a) 1 (get_or a r 0) d) 64 ≡ true
      from-beside h =
          let s = any_at (λ r. not (eqb r i) && leads_to (length words) 1 (get_or words r 0) d) 64 h in
          let b = both (not (eqb s.0 i)) (leads_to (length words) 1 (get_or words s.0 0) d) s.2 in
          any-from (λ r. leads_to (length a) 1 (get_or a r 0) d) 64 s.0 s.1
          (subst (λ (n : ℕ). leads_to n 1 (get_or a s.0 0) d ≡ true) (sym long)
          (subst (λ (v : ℕ). leads_to (length words) 1 v d ≡ true) (sym (others s.0 (unequal s.0 b.0))) b.1))
        where
          unequal : (r : ℕ) → not (eqb r i) ≡ true → r ≡ i → ⊥
          unequal r n e = let q = eq-eqb r i e in let z : ◌≡◌ {A = Bool} false true = rw q at n in let y : ◌≡◌ {A = ℕ} 0 1 = cc in omega
              arith

      back : beside || leads_to (length words) 1 w d ≡ true → any (λ r. leads_to (length a) 1 (get_or a r 0) d) 64 ≡ true
      back h =
          ⊎_elim from-beside
          (λ (l : leads_to (length words) 1 w d ≡ true).
          any-from (λ r. leads_to (length a) 1 (get_or a r 0) d) 64 i root
          (subst (λ (n : ℕ). leads_to n 1 (get_or a i 0) d ≡ true) (sym long)
          (subst (λ (v : ℕ). leads_to (length words) 1 v d ≡ true) (sym here) l)))
          (or-either beside (leads_to (length words) 1 w d) h)

  pub root-links : i < 64 → links_of a ≡ root_links true words i w
  unfolding links_of root_links
  root-links root =
      links-same (λ j. directory_reached a (j / 512)) (λ j. reached_with words i w (j / 512)) a words long
      (λ j t l.
      by_number (directory_reached a (j / 512) && links_to a j t ≡ reached_with words i w (j / 512) && links_to words j t) j i
      (λ e.
      let z : j / 512 ≡ 0 = omega arith in
      let none : reached_with words i w (j / 512) ≡ false = ap (reached_with words i w) z ∙ with-zero words i w in
      let no_more : directory_reached a (j / 512) ≡ false = reached-with root (j / 512) ∙ none in
      rw (none, no_more))
      (λ ne. ap₂ ◌&&◌ (reached-with root (j / 512)) (links-others j t ne)))

  -- the word is no root
  module _ (inner : 64 ≤ i) where
    reached-same : (d : ℕ) → directory_reached a d ≡ directory_reached words d
    unfolding directory_reached
    reached-same d =
        any_same (λ r. leads_to (length a) 1 (get_or a r 0) d) (λ r. leads_to (length words) 1 (get_or words r 0) d) 64
        (λ r l. ap₂ (λ (n v : ℕ). leads_to n 1 v d) long (others r (λ q. omega arith)))

    -- and stands in no reached directory
    pub links-unreached : directory_reached words (i / 512) ≡ false → links_of a ≡ links_of words
    unfolding links_of
    links-unreached un =
        links-same (λ j. directory_reached a (j / 512)) (λ j. directory_reached words (j / 512)) a words long
        (λ j t l.
        by_number (directory_reached a (j / 512) && links_to a j t ≡ directory_reached words (j / 512) && links_to words j t) j i
        (λ e.
        let none : directory_reached words (j / 512) ≡ false = ap (λ (k : ℕ). directory_reached words (k / 512)) e ∙ un in
        let no_more : directory_reached a (j / 512) ≡ false = reached-same (j / 512) ∙ none in
        rw (none, no_more))
        (λ ne. ap₂ ◌&&◌ (reached-same (j / 512)) (links-others j t ne)))

    -- or leads nowhere, neither before nor now
    pub links-idle : leads_on (length words) 0 w ≡ false → leads_on (length words) 0 (get_or words i 0) ≡ false → links_of a ≡ links_of words
    unfolding links_of links_to leads_to
    links-idle was now =
        links-same (λ j. directory_reached a (j / 512)) (λ j. directory_reached words (j / 512)) a words long
        (λ j t l.
        by_number (directory_reached a (j / 512) && links_to a j t ≡ directory_reached words (j / 512) && links_to words j t) j i
        (λ e.
        let none : links_to a j t ≡ false = ap (λ (k : ℕ). links_to a k t) e ∙ rw (here, long, was) in
        let no_more : links_to words j t ≡ false = ap (λ (k : ℕ). links_to words k t) e ∙ rw now in
        ap (λ (b : Bool). directory_reached a (j / 512) && b) none ∙ and-false (directory_reached a (j / 512))
        ∙ sym (ap (λ (b : Bool). directory_reached words (j / 512) && b) no_more ∙ and-false (directory_reached words (j / 512))))
        (λ ne. ap₂ ◌&&◌ (reached-same (j / 512)) (links-others j t ne)))

    -- or in one: its old link is taken away, its new one added
    module _ (within : directory_reached words (i / 512) ≡ true) (inside : i < length words) (short : length words ≤ 67108864) where
      but : (j : ℕ) → Bool
      but j = not (eqb j i) && directory_reached words (j / 512)

      but-here : but i ≡ false
      unfolding but
      but-here = rw (eq-eqb i i refl)

      but-other : (k : ℕ) → (k ≡ i → ⊥) → but k ≡ directory_reached words (k / 512)
      unfolding but
      but-other k ne = rw (ne_eqb k i ne)

      taken : relinked false (length words) w (links_of a) ≡ links_from but words
      unfolding links_of
      taken =
          ap₂ (λ (n v : ℕ). relinked false n v (links_of a)) (sym long) (sym here)
          ∙ links-toggle a false (λ j. directory_reached a (j / 512)) but i (rw long inside) (reached-same (i / 512) ∙ within) but-here
          (λ k l ne. reached-same (k / 512) ∙ sym (but-other k ne))
          ∙ links-same but but a words long
          (λ j t l.
          by_number (but j && links_to a j t ≡ but j && links_to words j t) j i
          (λ e. let none : but j ≡ false = ap but e ∙ but-here in rw none)
          (λ ne. ap (λ (b : Bool). but j && b) (links-others j t ne)))

      pub taken-fits : Relinks false (length words) w (links_of a)
      unfolding links_of
      taken-fits =
          subst (λ (n : ℕ). Relinks false n w (links_of a)) long
          (subst (λ (v : ℕ). Relinks false (length a) v (links_of a)) here
          (toggle-fits a false (λ j. directory_reached a (j / 512)) but i (rw long inside) (reached-same (i / 512) ∙ within) but-here
          (λ k l ne. reached-same (k / 512) ∙ sym (but-other k ne)) (rw long short)))

      pub added : relinked true (length words) (get_or words i 0) (relinked false (length words) w (links_of a)) ≡ links_of words
      unfolding links_of
      added =
          ap (relinked true (length words) (get_or words i 0)) taken
          ∙ links-toggle words true but (λ j. directory_reached words (j / 512)) i inside but-here within (λ k l ne. but-other k ne)

      pub added-fits : Relinks true (length words) (get_or words i 0) (relinked false (length words) w (links_of a))
      added-fits =
          subst (Relinks true (length words) (get_or words i 0)) (sym taken)
          (toggle-fits words true but (λ j. directory_reached words (j / 512)) i inside but-here within (λ k l ne. but-other k ne) short)

-- the ways through a store, in the code's words: the run has the new word, and the links are those with the old one
module _ (words links : List ℕ) (i old : ℕ) (e : links ≡ links_of (set words i old)) (fits : tables_fit words ≡ true)
    (inside : i < length words) where
  old-here : get_or (set words i old) i 0 ≡ old
  old-here = get_or-set_same words i old 0 inside

  old-others : (r : ℕ) → (r ≡ i → ⊥) → get_or (set words i old) r 0 ≡ get_or words r 0
  old-others r ne = get_or-set_other words i r old 0 ne

  pub was-root : i < 64 → links ≡ root_links true words i old
  was-root root = e ∙ root-links (set words i old) words i old (length-set words i old) old-here old-others root

  pub is-root : i < 64 → (now : List ℕ) → now ≡ root_links true words i (get_or words i 0) → now ≡ links_of words
  is-root root now q = q ∙ sym (root-links words words i (get_or words i 0) refl refl (λ r ne. refl) root)

  module _ (before now : Bool) (led : before ≡ leads_on (length words) 0 old) (leads : now ≡ leads_on (length words) 0 (get_or words i 0)) where
    pub idle : 64 ≤ i → not (before || now) ≡ true → links ≡ links_of words
    idle inner h =
        let none = or-neither before now (not-true (before || now) h) in
        e ∙ links-idle (set words i old) words i old (length-set words i old) old-here old-others inner (sym led ∙ none.0) (sym leads ∙
        none.1)

  module _ (inner : 64 ≤ i) (on : Bool) (reached : on ≡ reached_beside words 64 (i / 512)) where
    reached-is : directory_reached words (i / 512) ≡ on
    reached-is = sym (reached ∙ beside_none words (i / 512))

    pub stays : on ≡ false → links ≡ links_of words
    stays b = e ∙ links-unreached (set words i old) words i old (length-set words i old) old-here old-others inner (reached-is ∙ b)

    module _ (b : on ≡ true) where
      pub takes : Relinks false (length words) old links
      takes =
          subst (Relinks false (length words) old) (sym e)
          (taken-fits (set words i old) words i old (length-set words i old) old-here old-others inner (reached-is ∙ b) inside
          (fit-bounds words fits).1)

      module _ (next : List ℕ) (q : next ≡ relinked false (length words) old links) where
        next-is : next ≡ relinked false (length words) old (links_of (set words i old))
        next-is = q ∙ ap (relinked false (length words) old) e

        pub adds : Relinks true (length words) (get_or words i 0) next
        adds =
            subst (Relinks true (length words) (get_or words i 0)) (sym next-is)
            (added-fits (set words i old) words i old (length-set words i old) old-here old-others inner (reached-is ∙ b) inside
            (fit-bounds words fits).1)

        pub shifted : (last : List ℕ) → last ≡ relinked true (length words) (get_or words i 0) next → last ≡ links_of words
        shifted last r =
            r ∙ ap (relinked true (length words) (get_or words i 0)) next-is
            ∙ added (set words i old) words i old (length-set words i old) old-here old-others inner (reached-is ∙ b) inside
            (fit-bounds words fits).1
