-- The test of a tree says what number 12 says, word for word. Assumes nothing.
use Prim.Native.Nat.{ℕ, ◌*◌, ◌/◌, ◌<◌}
use mathlib.Core.Path.{◌≡◌, refl, sym, ap}
use mathlib.Core.Logic.{◌⊎◌, inl, inr, ⊎_elim}
use mathlib.Core.Bool.{Bool, true, false, cond, not, ◌&&◌}
use mathlib.Core.List.{List}
use native.Mathlib.Omega.{arith}
use lib.ListN.{length, get_or}
use lib.Dec.{eqb}
use borrow.Author.Tests.{not-true, eqb-false, ne_eqb}
use Rattle.runs.specs.Counts.{any}
use Rattle.runs.proofs.Bools.{both, and_both, is_false, clash}
use Rattle.runs.proofs.Counts.{any_at, any_none}
use Rattle.page_table.specs.Words.{present, number}
use Rattle.page_table.specs.Stretches.{stretch_size, broken, directory_word}
use Rattle.page_table.specs.Reads.{leads_on}
use Rattle.reach.proofs.LeafLaws.{leads-sound}
use Rattle.trees.specs.Trees.{names_table, also_named, has_broken, names_twice, overlaps, meets, meets_root, met, apart, tree_fits}
use Rattle.trees.specs.Meeting.{lies_in}
use Rattle.trees.specs.Fitting.{LiesBelow, Reaches, Stands, TreeRight, FitsMeans}
use Rattle.trees.proofs.Apart.{apart-told, apart-alone, names-from, names-told}
use Rattle.trees.proofs.MeetLaws.{lies-told, in-directory, in_table, meet-word, word-meet}

-- a word that leads on is present
leads-present : (len levels w : ℕ) → leads_on len levels w ≡ true → present w ≡ true
unfolding leads_on
leads-present len levels w h = (both (present w) (not (broken len (stretch_size levels) w)) h).0

-- a root reaches the words that lie in its stretches
lies-reached : (words : List ℕ) (r i : ℕ) → lies_in words r i ≡ true → Reaches words r i
unfolding Reaches LiesBelow
lies-reached words r i h =
    let s = lies-told words r i h in (
      s.0,
      ⊎_elim (λ e. inl (sym e))
          (λ n. let t = names-told words (number (get_or words r 0)) 512 (i / 1024) n in inr (t.0, t.1, t.2, sym t.3)) s.1,
    )

reached-lies : (words : List ℕ) (r i : ℕ) → Reaches words r i → lies_in words r i ≡ true
unfolding Reaches LiesBelow
reached-lies words r i h =
    ⊎_elim (λ e. in-directory words r i h.0 (sym e))
    (λ t. in_table words r i h.0 (i / 1024)
    (names-from words (number (get_or words r 0)) 512 (i / 1024) t.0 t.1 t.2 (sym t.3)) refl) h.1

-- a root whose directory meets the identification's, told apart
root_told : (words : List ℕ) (id d r : ℕ) → meets_root words id d r ≡ true
    → (r ≡ id → ⊥) × (leads_on (length words) 1 (get_or words r 0) ≡ true) × (meets words d (number (get_or words r 0)) ≡ true)
unfolding meets_root
root_told words id d r h =
    let one = both (not (eqb r id) && leads_on (length words) 1 (get_or words r 0)) (meets words d (number (get_or words r 0))) h in
    let two = both (not (eqb r id)) (leads_on (length words) 1 (get_or words r 0)) one.0 in
    (eqb-false r id (not-true (eqb r id) two.0), two.1, one.1)

root-from : (words : List ℕ) (id d r : ℕ) → (r ≡ id → ⊥) → leads_on (length words) 1 (get_or words r 0) ≡ true
    → meets words d (number (get_or words r 0)) ≡ true → meets_root words id d r ≡ true
unfolding meets_root
root-from words id d r ne on meet = and_both (and_both (ap not (ne_eqb r id ne)) on) meet

module _ (words : List ℕ) (id : ℕ) (root : leads_on (length words) 1 (get_or words id 0) ≡ true) where
  abbrev d : ℕ
  d = number (get_or words id 0)

  abbrev w : ℕ → ℕ
  w j = directory_word words d j

  -- a directory that passes stands by itself
  stands : apart words id d ≡ true → Stands words id d
  unfolding met Reaches
  stands h =
      let a = apart-told words id d h in
      record {
        root = root;
        sound = λ j jl p. a.sound j (omega arith) p;
        distinct = λ j k jl kl pj pk e.
            let oj = a.sound j (omega arith) pj in
            let ok = a.sound k (omega arith) pk in
            same j k (λ l. a.distinct j k (omega arith) l oj ok (sym e)) (λ l. a.distinct k j (omega arith) l ok oj e);
        beside = λ i j jl p low high. a.beside j (omega arith) (a.sound j (omega arith) p) (omega arith);
        alone = λ r i rl ne own other.
            clash
            (root-from words id d r ne other.0
            (word-meet words id r root other.0 i (reached-lies words id i (root, own)) (reached-lies words r i other)))
            (any_none (meets_root words id d) 64 r (apart-alone words id d h) (omega arith));
      }
    where
      same : (j k : ℕ) → (k < j → ⊥) → (j < k → ⊥) → j ≡ k
      same j k f g = omega (arith, f, g)

  -- and one that stands by itself passes
  module _ (s : Stands words id d) where
    none-broken : has_broken words d ≡ false
    unfolding has_broken
    none-broken =
        is_false (any (λ j. present (w j) && broken (length words) (stretch_size 0) (w j)) 512)
        (λ t.
        let f = any_at (λ j. present (w j) && broken (length words) (stretch_size 0) (w j)) 512 t in
        let p = both (present (w f.0)) (broken (length words) (stretch_size 0) (w f.0)) f.2 in
        clash p.1 (leads-sound (length words) 0 (w f.0) (s.sound f.0 (omega (arith, f.1)) p.0)))

    none-twice : names_twice words d ≡ false
    unfolding names_twice also_named
    none-twice =
        is_false (any (λ j. leads_on (length words) 0 (w j) && names_table words d j (number (w j))) 512)
        (λ t.
        let f = any_at (λ j. leads_on (length words) 0 (w j) && names_table words d j (number (w j))) 512 t in
        let j : ℕ = f.0 in
        let p = both (leads_on (length words) 0 (w j)) (names_table words d j (number (w j))) f.2 in
        let n = names-told words d j (number (w j)) p.1 in
        let k : ℕ = n.0 in
        let e : j ≡ k = s.distinct j k (omega (arith, f.1)) (omega (arith, n.1, f.1)) (leads-present (length words) 0 (w j) p.0)
        (leads-present (length words) 0 (w k) n.2) (sym n.3) in
        omega (arith, n.1))

    none_over : overlaps words d ≡ false
    unfolding overlaps
    none_over =
        is_false (names_table words d 512 (d / 2))
        (λ t.
        let n = names-told words d 512 (d / 2) t in
        s.beside (512 * d) n.0 (omega (arith, n.1)) (leads-present (length words) 0 (w n.0) n.2) (omega arith)
        (omega (arith, n.3)))

    none-met : met words id d ≡ false
    unfolding met Reaches
    none-met =
        is_false (any (meets_root words id d) 64)
        (λ t.
        let f = any_at (meets_root words id d) 64 t in
        let r = root_told words id d f.0 f.2 in
        let i = meet-word words id f.0 root r.1 r.2 in
        s.alone f.0 i.0 (omega (arith, f.1)) r.0 (lies-reached words id i.0 i.2).1
        (lies-reached words f.0 i.0 i.3))

    passes : apart words id d ≡ true
    unfolding apart
    passes = rw (none-broken, none-twice, none_over, none-met)

pub fits-means : FitsMeans
unfolding FitsMeans TreeRight tree_fits leads_on
fits-means words id = go (present root) refl
  where
    root : ℕ
    root = get_or words id 0

    bad : Bool
    bad = broken (length words) (stretch_size 1) root

    Stand : Type 0
    Stand = Stands words id (number root)

    go : (p : Bool) → present root ≡ p
        → (cond p (not bad && apart words id (number root)) true ≡ true → (present root ≡ false) ⊎ Stand)
        × ((present root ≡ false) ⊎ Stand → cond p (not bad && apart words id (number root)) true ≡ true)
    go true here = (
      λ h. let s = both (not bad) (apart words id (number root)) h in inr (stands words id (and_both here s.0) s.1),
      ⊎_elim (λ absent. absurd (clash here absent))
          (λ (s : Stand). and_both (both (present root) (not bad) s.root).1 (passes words id s.root s)),
    )
    go false here = (λ h. inl here, λ h. refl)
