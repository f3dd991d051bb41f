-- The tests of a tree, in the code's words: from what the calls before have told. Assumes nothing.
use Prim.Native.Nat.{ℕ, ◌+◌, ◌*◌, ◌/◌, ◌≤◌}
use mathlib.Core.Path.{◌≡◌, refl, sym, subst, ◌∙◌}
use mathlib.Core.Bool.{Bool, true, false, not, ◌&&◌}
use mathlib.Core.List.{List}
use lib.ListN.{length, get_or}
use borrow.Author.Tests.{eq-eqb, ne_eqb, not-true, not-false}
use Rattle.page_table.specs.Words.{present, number}
use Rattle.page_table.specs.Stretches.{stretch_size, broken}
use Rattle.page_table.specs.Reads.{leads_on}
use Rattle.reach.proofs.LinkLaws.{leads-fits}
use Rattle.trees.specs.Trees.{names_table, also_named, has_broken, names_twice, overlaps}
use Rattle.trees.specs.Trees.{shares_table, meets, meets_root, met, apart, tree_fits}

-- a present word that does not lead on is broken
pub broken-at : (len levels w : ℕ) (here on : Bool) → here ≡ present w → on ≡ leads_on len levels w
    → here && not on ≡ present w && broken len (stretch_size levels) w
unfolding leads_on
broken-at len levels w here on is leads = rw (is, leads) (go (present w) (broken len (stretch_size levels) w))
  where
    go : (p b : Bool) → p && not (p && not b) ≡ p && b
    go true true = refl
    go true false = refl
    go false b = refl

-- the stretch of a root that leads on stands in the run
pub root-room : (len w : ℕ) (on : Bool) (n : ℕ) → on ≡ leads_on len 1 w → not on ≡ false → n ≡ number w → 512 * n + 512 ≤ len
unfolding stretch_size
root-room len w on n leads h numbered = rw numbered (leads-fits len 1 w (sym leads ∙ not-false on h))

-- the ways through the test of one word's table
module _ (words : List ℕ) (w d n : ℕ) (on : Bool) (leads : on ≡ leads_on (length words) 0 w) where
  pub also-nowhere : not on ≡ true → false ≡ also_named words w d n
  unfolding also_named
  also-nowhere h = rw (sym leads ∙ not-true on h)

  pub also-there : not on ≡ false → (t : ℕ) → t ≡ number w → (b : Bool) → b ≡ names_table words d n t → b ≡ also_named words w d n
  unfolding also_named
  also-there h t numbered b named = rw (sym leads ∙ not-false on h) (subst (λ (k : ℕ). b ≡ names_table words d n k) numbered named)

-- the ways through the test of two directories
module _ (words : List ℕ) (d e : ℕ) where
  pub meets-same : d ≡ e → true ≡ meets words d e
  unfolding meets
  meets-same h = rw (eq-eqb d e h)

  module _ (apart : d ≡ e → ⊥) (own : Bool) (own_is : own ≡ names_table words d 512 (e / 2)) where
    pub meets-own : own ≡ true → true ≡ meets words d e
    unfolding meets
    meets-own h = rw (ne_eqb d e apart, sym own_is ∙ h)

    module _ (none : own ≡ false) (other : Bool) (other-is : other ≡ names_table words e 512 (d / 2)) where
      pub meets-other : other ≡ true → true ≡ meets words d e
      unfolding meets
      meets-other h = rw (ne_eqb d e apart, sym own_is ∙ none, sym other-is ∙ h)

      pub meets-tables : other ≡ false → (shared : Bool) → shared ≡ shares_table words d e → shared ≡ meets words d e
      unfolding meets
      meets-tables h shared is = rw (ne_eqb d e apart, sym own_is ∙ none, sym other-is ∙ h) is

-- the ways through the test of one root
module _ (words : List ℕ) (id d r : ℕ) where
  pub root-own : r ≡ id → false ≡ meets_root words id d r
  unfolding meets_root
  root-own h = rw (eq-eqb r id h)

  module _ (other : r ≡ id → ⊥) (on : Bool) (leads : on ≡ leads_on (length words) 1 (get_or words r 0)) where
    pub root-nowhere : not on ≡ true → false ≡ meets_root words id d r
    unfolding meets_root
    root-nowhere h = rw (ne_eqb r id other, sym leads ∙ not-true on h)

    pub root-there : not on ≡ false → (e : ℕ) → e ≡ number (get_or words r 0) → (b : Bool) → b ≡ meets words d e → b ≡ meets_root words id d r
    unfolding meets_root
    root-there h e numbered b meet =
        rw (ne_eqb r id other, sym leads ∙ not-false on h) (subst (λ (k : ℕ). b ≡ meets words d k) numbered meet)

-- the ways through the test of a directory
module _ (words : List ℕ) (id d : ℕ) (bad : Bool) (bad-is : bad ≡ has_broken words d) where
  pub apart-broken : bad ≡ true → false ≡ apart words id d
  unfolding apart
  apart-broken h = rw (sym bad-is ∙ h)

  module _ (sound : bad ≡ false) (twice : Bool) (twice-is : twice ≡ names_twice words d) where
    pub apart-twice : twice ≡ true → false ≡ apart words id d
    unfolding apart
    apart-twice h = rw (sym bad-is ∙ sound, sym twice-is ∙ h)

    module _ (once : twice ≡ false) (over : Bool) (over-is : over ≡ overlaps words d) where
      pub apart-over : over ≡ true → false ≡ apart words id d
      unfolding apart
      apart-over h = rw (sym bad-is ∙ sound, sym twice-is ∙ once, sym over-is ∙ h)

      pub apart-met : over ≡ false → (m : Bool) → m ≡ met words id d → not m ≡ apart words id d
      unfolding apart
      apart-met h m is = rw (sym bad-is ∙ sound, sym twice-is ∙ once, sym over-is ∙ h, is)

-- the ways through the test of an identification
module _ (words : List ℕ) (id : ℕ) (here : Bool) (here-is : here ≡ present (get_or words id 0)) where
  pub fits-absent : not here ≡ true → true ≡ tree_fits words id
  unfolding tree_fits
  fits-absent h = rw (sym here-is ∙ not-true here h)

  module _ (there : not here ≡ false) (on : Bool) (leads : on ≡ leads_on (length words) 1 (get_or words id 0)) where
    judged : tree_fits words id ≡ on && apart words id (number (get_or words id 0))
    unfolding tree_fits leads_on
    judged = rw (leads, sym here-is ∙ not-false here there)

    pub fits-broken : not on ≡ true → false ≡ tree_fits words id
    fits-broken h = rw (judged, not-true on h)

    pub fits-apart : not on ≡ false → (d : ℕ) → d ≡ number (get_or words id 0) → (b : Bool) → b ≡ apart words id d → b ≡ tree_fits words id
    fits-apart h d numbered b is = rw (judged, not-false on h) (subst (λ (k : ℕ). b ≡ apart words id k) numbered is)
