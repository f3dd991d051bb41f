-- A pass changes no word that another root reaches, so no walk of it. Assumes nothing.
use Prim.Native.Nat.{ℕ, ◌+◌, ◌*◌, ◌/◌, ◌%◌, ◌<◌}
use mathlib.Core.Path.{◌≡◌, refl, sym, ap, ◌∙◌}
use mathlib.Core.Logic.{inl, inr, ⊎_elim}
use mathlib.Core.Bool.{Bool, true, false, cond}
use mathlib.Core.List.{List, [], ◌∷◌}
use native.Mathlib.Omega.{arith}
use lib.ListN.{length, get_or}
use Rattle.runs.proofs.Bools.{both, clash}
use Rattle.page_table.specs.Words.{present, number}
use Rattle.page_table.specs.Stretches.{stretch_size, index_in, directory_word}
use Rattle.page_table.specs.Reads.{leads_on, tree_reads, Agree}
use Rattle.page_table.specs.Walk.{index_below, walk_tree}
use Rattle.page_table.proofs.Local.{descend-local}
use Rattle.store.specs.Rewrite.{written}
use Rattle.store.proofs.Scans.{written-other}
use Rattle.trees.specs.Trees.{tree_fits}
use Rattle.trees.specs.Fitting.{LiesBelow, Reaches, Stands, TreeRight, FitsMeans}
use Rattle.trees.proofs.FitLaws.{fits-means}
use Rattle.collector.specs.Visits.{pass_leaves, aged_puts}
use Rattle.collector.proofs.Puts.{tree_puts, pass_words}
use Rattle.collector.proofs.Passes.{tree-elsewhere, pass-is, pass-length, pass-root}
use Rattle.passes.specs.Others.{OthersStay}
use Rattle.passes.proofs.Accepted.{grounds, words-now}

-- a tree that passes number 12 and has a directory
pub stands : (words : List ℕ) (id : ℕ) → leads_on (length words) 1 (get_or words id 0) ≡ true → tree_fits words id ≡ true
    → Stands words id (number (get_or words id 0))
unfolding FitsMeans TreeRight leads_on
stands words id leads fits =
    ⊎_elim (λ absent. absurd (clash (both (present (get_or words id 0)) _ leads).0 absent)) (λ s. s) ((fits-means words id).0 fits)

module _ (words : List ℕ) (first size id : ℕ) (leads : leads_on (length words) 1 (get_or words id 0) ≡ true) (fits : tree_fits words id ≡ true)
    (r : ℕ) (known : r < 64) (other : r ≡ id → ⊥) where
  abbrev after : List ℕ
  after = pass_words words first size id

  -- a store of the pass would stand in an own table
  pub other-kept : (i : ℕ) → Reaches words r i → get_or (pass_words words first size id) i 0 ≡ get_or words i 0
  unfolding LiesBelow
  other-kept i reached =
      ap (λ (ws : List ℕ). get_or ws i 0) (pass-is words first size id leads)
      ∙ written-other (tree_puts words first size (number (get_or words id 0)) 512) words i
      (tree-elsewhere words first size (number (get_or words id 0)) 512 i
      (λ j l leads-j e. (stands words id leads fits).alone r i known other (inr (j, l, leads-j, e)) reached))

  -- the words of its directory
  pub other_word : leads_on (length words) 1 (get_or words r 0) ≡ true → (j : ℕ) → j < 512
      → directory_word (pass_words words first size id) (number (get_or words r 0)) j ≡ directory_word words (number (get_or words r 0)) j
  unfolding directory_word Reaches LiesBelow
  other_word on j l = other-kept (512 * number (get_or words r 0) + j) (on, inl (omega arith))

  module _ (vpn : ℕ) (page : vpn < 524288) where
    -- what a walk reads below a directory word that leads on, and below the root
    leaf-read : (j : ℕ) → leads_on (length words) 1 (get_or words r 0) ≡ true → j < 512
        → leads_on (length words) 0 (directory_word words (number (get_or words r 0)) j) ≡ true → (i : ℕ)
        → i / 1024 ≡ number (directory_word words (number (get_or words r 0)) j) → get_or words i 0 ≡ get_or (pass_words words first size id) i 0
    unfolding Reaches LiesBelow
    leaf-read j on l leads-j i e = sym (other-kept i (on, inr (j, l, leads-j, e)))

    tree-agrees : Agree (tree_reads words vpn 2 r) words (pass_words words first size id)
    unfolding tree_reads Agree index_below stretch_size index_in directory_word
    tree-agrees = (sym (pass-root words first size id leads r known), by-root (leads_on (length words) 1 (get_or words r 0)) refl)
      where
        at : ℕ
        at = 512 * number (get_or words r 0) + vpn / 1024

        by_word : leads_on (length words) 1 (get_or words r 0) ≡ true
            → (b : Bool) → leads_on (length words) 0 (get_or words (512 * number (get_or words r 0) + vpn / 1024) 0) ≡ b
            → Agree (cond b ((1024 * number (get_or words (512 * number (get_or words r 0) + vpn / 1024) 0) + vpn % 1024) ∷ []) [])
            words (pass_words words first size id)
        by_word on true e = (
          leaf-read (vpn / 1024) on (omega arith) e
              (1024 * number (get_or words (512 * number (get_or words r 0) + vpn / 1024) 0) + vpn % 1024) (omega arith),
          tt,
        )
        by_word on false e = tt

        by-root : (b : Bool) → leads_on (length words) 1 (get_or words r 0) ≡ b
            → Agree (cond b ((512 * number (get_or words r 0) + vpn / 1024)
            ∷ cond (leads_on (length words) 0 (get_or words (512 * number (get_or words r 0) + vpn / 1024) 0))
            ((1024 * number (get_or words (512 * number (get_or words r 0) + vpn / 1024) 0) + vpn % 1024) ∷ []) []) [])
            words (pass_words words first size id)
        by-root true e = (
          sym (other_word e (vpn / 1024) (omega arith)),
          by_word e (leads_on (length words) 0 (get_or words (512 * number (get_or words r 0) + vpn / 1024) 0)) refl,
        )
        by-root false e = tt

    pub other-walk : (global : Bool) → walk_tree (pass_words words first size id) vpn global r ≡ walk_tree words vpn global r
    unfolding walk_tree
    other-walk global =
        sym (descend-local words (pass_words words first size id) vpn global (sym (pass-length words first size id leads)) 2 r tree-agrees)

-- a pass over an absent root changes nothing
pub none-changed : (words : List ℕ) (first size id : ℕ) → leads_on (length words) 1 (get_or words id 0) ≡ false
    → pass_words words first size id ≡ words
unfolding pass_words pass_leaves aged_puts written
none-changed words first size id e = rw e

pub others-stay : OthersStay
unfolding OthersStay
others-stay m p id answer buffer-after words-after pass root vpn global known other page =
    ap (λ (ws : List ℕ). walk_tree ws vpn global root) (words-now m p id answer buffer-after words-after pass)
    ∙ by-root (leads_on (length m.words) 1 (get_or m.words id 0)) refl
  where
    by-root : (b : Bool) → leads_on (length m.words) 1 (get_or m.words id 0) ≡ b
        → walk_tree (pass_words m.words p.first p.size id) vpn global root ≡ walk_tree m.words vpn global root
    by-root true e =
        other-walk m.words p.first p.size id e
        (grounds m p id answer buffer-after words-after pass).tree-fits root known other vpn page global
    by-root false e = ap (λ (ws : List ℕ). walk_tree ws vpn global root) (none-changed m.words p.first p.size id e)
