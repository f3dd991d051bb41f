-- A word is a leaf word exactly when it is present and stands in a reached table. Assumes nothing.
use Prim.Native.Nat.{ℕ, suc, ◌+◌, ◌*◌, ◌/◌, ◌%◌, ◌<◌}
use mathlib.Core.Path.{◌≡◌, refl, sym, subst}
use mathlib.Core.Bool.{Bool, true, false, cond, not, ◌&&◌, ◌||◌}
use mathlib.Core.List.{List}
use native.Mathlib.Omega.{arith}
use lib.ListN.{length, get_or}
use lib.Dec.{eqb}
use borrow.Author.Tests.{eqb-true, eqb-false, eq-eqb, not-true}
use Rattle.runs.specs.Counts.{any}
use Rattle.runs.proofs.Bools.{both, and_both, clash, or-neither, same_test}
use Rattle.runs.proofs.Counts.{any_at, any-from}
use Rattle.page_table.specs.Words.{present, number, reserved}
use Rattle.page_table.specs.Stretches.{stretch_size, index_in, broken, inside}
use Rattle.page_table.specs.Walk.{index_below, descend, walk_tree, leaf_at, stop_at}
use Rattle.page_table.specs.Reads.{leads_on}
use Rattle.page_table.specs.declared.Walk.{Walk}
use Rattle.page_table.specs.declared.Walk.TheVariants.{Leaf, Absent, Broken}
use Rattle.page_table.proofs.Walks.{below-inside}
use Rattle.reach.specs.Reach.{leads_to, directory_reached, links_to, table_reached}
use Rattle.reach.specs.Leaves.{ends_at, is_leaf_word, LeafWords}

-- a word leads on to the stretch of its own number, and to no other
pub leads-number : (len levels w n : ℕ) → leads_to len levels w n ≡ true → (leads_on len levels w ≡ true) × (number w ≡ n)
unfolding leads_to
leads-number len levels w n h =
    let b = both (leads_on len levels w) (eqb (number w) n) h in
    (b.0, eqb-true (number w) n b.1)

pub leads-to : (len levels w : ℕ) → leads_on len levels w ≡ true → leads_to len levels w (number w) ≡ true
unfolding leads_to
leads-to len levels w h = and_both h (eq-eqb (number w) (number w) refl)

-- a word that leads on is not broken
pub leads-sound : (len levels w : ℕ) → leads_on len levels w ≡ true → broken len (stretch_size levels) w ≡ false
unfolding leads_on
leads-sound len levels w h =
    not-true (broken len (stretch_size levels) w) (both (present w) (not (broken len (stretch_size levels) w)) h).1

-- and its number is not 0
pub leads-numbered : (len levels w : ℕ) → leads_on len levels w ≡ true → number w ≡ 0 → ⊥
unfolding broken
leads-numbered len levels w h e =
    let s = leads-sound len levels w h in
    let l = (or-neither (not (eqb (reserved w) 0) || eqb (number w) 0) (not (inside len (stretch_size levels) (number w))) s).0 in
    eqb-false (number w) 0 (or-neither (not (eqb (reserved w) 0)) (eqb (number w) 0) l).1 e

-- what it names stands in the run
leads-inside : (len vpn levels w : ℕ) → vpn < 524288 → leads_on len levels w ≡ true → index_below vpn levels w < len
leads-inside len vpn levels w page h = below-inside len vpn levels w page (leads-sound len levels w h)

module _ (words : List ℕ) (vpn : ℕ) (global : Bool) (i : ℕ) where
  -- a walk that ends at a word as its leaf was led on by every word before it
  ends-below : (n at : ℕ) → ends_at (descend words vpn global (suc n) at) i ≡ true
      → (leads_on (length words) n (get_or words at 0) ≡ true)
      × (ends_at (descend words vpn global n (index_below vpn n (get_or words at 0))) i ≡ true)
  unfolding descend leads_on ends_at
  ends-below n at h = go (present w) (broken (length words) (stretch_size n) w) h
    where
      w : ℕ
      w = get_or words at 0

      next : Walk
      next = descend words vpn global n (index_below vpn n w)

      go : (p b : Bool) → ends_at (cond p (cond b (Broken (stop_at global (suc n))) next) (Absent (stop_at global (suc n)))) i ≡ true
          → (p && not b ≡ true) × (ends_at next i ≡ true)
      go true true e = absurd (clash e refl)
      go true false e = (refl, e)
      go false b e = absurd (clash e refl)

  ends-leaf : (at : ℕ) → ends_at (descend words vpn global 0 at) i ≡ true → (present (get_or words at 0) ≡ true) × (at ≡ i)
  unfolding descend ends_at leaf_at
  ends-leaf at h = go (present (get_or words at 0)) h
    where
      go : (p : Bool) → ends_at (cond p (Leaf (leaf_at words global at)) (Absent (stop_at global 0))) i ≡ true → (p ≡ true) × (at ≡ i)
      go true e = (refl, eqb-true at i e)
      go false e = absurd (clash e refl)

  -- and the other way round
  led_on : (n at : ℕ) → leads_on (length words) n (get_or words at 0) ≡ true
      → ends_at (descend words vpn global n (index_below vpn n (get_or words at 0))) i ≡ true
      → ends_at (descend words vpn global (suc n) at) i ≡ true
  unfolding descend leads_on
  led_on n at h e = go (present w) (broken (length words) (stretch_size n) w) h
    where
      w : ℕ
      w = get_or words at 0

      next : Walk
      next = descend words vpn global n (index_below vpn n w)

      go : (p b : Bool) → p && not b ≡ true
          → ends_at (cond p (cond b (Broken (stop_at global (suc n))) next) (Absent (stop_at global (suc n)))) i ≡ true
      go true true l = absurd (clash l refl)
      go true false l = e
      go false b l = absurd (clash l refl)

  leaf-ends : present (get_or words i 0) ≡ true → ends_at (descend words vpn global 0 i) i ≡ true
  unfolding descend ends_at leaf_at
  leaf-ends h = rw h (eq-eqb i i refl)

module _ (words : List ℕ) (i : ℕ) where
  -- the leaf of a walk stands in a reached table
  found : (vpn root : ℕ) → vpn < 524288 → root < 64 → ends_at (walk_tree words vpn false root) i ≡ true
      → present (get_or words i 0) && table_reached words (i / 1024) ≡ true
  unfolding walk_tree table_reached directory_reached links_to index_below stretch_size index_in
  found vpn root page r h =
      let top = ends-below words vpn false i 1 root h in
      let w = get_or words root 0 in
      let j : ℕ = index_below vpn 1 w in
      let below = ends-below words vpn false i 0 j top.1 in
      let v = get_or words j 0 in
      let last = ends-leaf words vpn false i (index_below vpn 0 v) below.1 in
      let table : i / 1024 ≡ number v = (let e : 1024 * number v + vpn % 1024 ≡ i = last.1 in omega arith) in
      let directory : j / 512 ≡ number w = (let e : j ≡ 512 * number w + vpn / 1024 = refl in omega arith) in
      and_both (subst (λ k. present (get_or words k 0) ≡ true) last.1 last.0)
      (any-from (λ k. directory_reached words (k / 512) && links_to words k (i / 1024)) (length words) j
      (leads-inside (length words) vpn 1 w page top.0)
      (and_both
      (any-from (λ k. leads_to (length words) 1 (get_or words k 0) (j / 512)) 64 root r
      (subst (λ d. leads_to (length words) 1 w d ≡ true) (sym directory) (leads-to (length words) 1 w top.0)))
      (subst (λ t. leads_to (length words) 0 v t ≡ true) (sym table) (leads-to (length words) 0 v below.0))))

  -- and a present word of a reached table is the leaf of a page's walk
  walked : present (get_or words i 0) && table_reached words (i / 1024) ≡ true → is_leaf_word words i ≡ true
  unfolding is_leaf_word walk_tree table_reached directory_reached links_to index_below stretch_size index_in
  walked h =
      let on = both (present (get_or words i 0)) (table_reached words (i / 1024)) h in
      let link = any_at (λ k. directory_reached words (k / 512) && links_to words k (i / 1024)) (length words) on.1 in
      let j : ℕ = link.0 in
      let parts = both (directory_reached words (j / 512)) (links_to words j (i / 1024)) link.2 in
      let way = any_at (λ k. leads_to (length words) 1 (get_or words k 0) (j / 512)) 64 parts.0 in
      let root : ℕ = way.0 in
      let w = get_or words root 0 in
      let v = get_or words j 0 in
      let top = leads-number (length words) 1 w (j / 512) way.2 in
      let below = leads-number (length words) 0 v (i / 1024) parts.1 in
      let vpn : ℕ = 1024 * (j % 512) + i % 1024 in
      let page : vpn < 524288 = omega arith in
      let to_j : 512 * number w + vpn / 1024 ≡ j = omega (arith, top.1) in
      let to-i : 1024 * number v + vpn % 1024 ≡ i = omega (arith, below.1) in
      any-from (λ r. any (λ x. ends_at (walk_tree words x false r) i) 524288) 64 root way.1
      (any-from (λ x. ends_at (walk_tree words x false root) i) 524288 vpn page
      (led_on words vpn false i 1 root top.0
      (subst (λ k. ends_at (descend words vpn false 1 k) i ≡ true) (sym to_j)
      (led_on words vpn false i 0 j below.0
      (subst (λ k. ends_at (descend words vpn false 0 k) i ≡ true) (sym to-i)
      (leaf-ends words vpn false i on.0))))))

pub leaf-words : LeafWords
unfolding is_leaf_word
leaf-words words i =
    same_test (is_leaf_word words i) (present (get_or words i 0) && table_reached words (i / 1024))
    (λ h.
    let r = any_at (λ root. any (λ vpn. ends_at (walk_tree words vpn false root) i) 524288) 64 h in
    let p = any_at (λ vpn. ends_at (walk_tree words vpn false r.0) i) 524288 r.2 in
    found words i p.0 r.0 p.1 r.1 p.2)
    (walked words i)
