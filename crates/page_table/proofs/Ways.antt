-- The way of a tree's walk to its leaf. Assumes nothing.
use Prim.Native.Nat.{ℕ, suc, ◌+◌, ◌*◌, ◌/◌, ◌%◌}
use mathlib.Core.Path.{◌≡◌, refl, sym, ap, ◌∙◌, subst}
use mathlib.Core.Bool.{Bool, true, false, cond, not, ◌&&◌}
use mathlib.Core.List.{List}
use lib.ListN.{length, get_or}
use Rattle.runs.proofs.Bools.{clash}
use Rattle.page_table.specs.Words.{present, number}
use Rattle.page_table.specs.Stretches.{stretch_size, index_in, broken, directory_word}
use Rattle.page_table.specs.Walk.{index_below, descend, walk_tree, leaf_at, stop_at}
use Rattle.page_table.specs.Reads.{leads_on}
use Rattle.page_table.specs.declared.Found.{Found}
use Rattle.page_table.specs.declared.Walk.{Walk}
use Rattle.page_table.specs.declared.Walk.TheVariants.{Leaf, Absent, Broken}

is_leaf : Walk → Bool
is_leaf (Leaf f) = true
is_leaf (Absent s) = false
is_leaf (Broken s) = false

leaf_or : Found → Walk → Found
leaf_or d (Leaf f) = f
leaf_or d (Absent s) = d
leaf_or d (Broken s) = d

module _ (words : List ℕ) (vpn : ℕ) (global : Bool) where
  way_down : (n at : ℕ) (f : Found) → descend words vpn global (suc n) at ≡ Leaf f
      → (leads_on (length words) n (get_or words at 0) ≡ true)
      × (descend words vpn global n (index_below vpn n (get_or words at 0)) ≡ Leaf f)
  unfolding descend leads_on is_leaf
  way_down n at f h = go (present w) (broken (length words) (stretch_size n) w) h
    where
      w : ℕ
      w = get_or words at 0

      next : Walk
      next = descend words vpn global n (index_below vpn n w)

      go : (p b : Bool) → cond p (cond b (Broken (stop_at global (suc n))) next) (Absent (stop_at global (suc n))) ≡ Leaf f
          → (p && not b ≡ true) × (next ≡ Leaf f)
      go true true e = absurd (clash refl (sym (ap is_leaf e)))
      go true false e = (refl, e)
      go false b e = absurd (clash refl (sym (ap is_leaf e)))

  way_end : (at : ℕ) (f : Found) → descend words vpn global 0 at ≡ Leaf f
      → (present (get_or words at 0) ≡ true) × (leaf_at words global at ≡ f)
  unfolding descend is_leaf leaf_or
  way_end at f h = go (present (get_or words at 0)) h
    where
      go : (p : Bool) → cond p (Leaf (leaf_at words global at)) (Absent (stop_at global 0)) ≡ Leaf f
          → (p ≡ true) × (leaf_at words global at ≡ f)
      go true e = (refl, ap (leaf_or f) e)
      go false e = absurd (clash refl (sym (ap is_leaf e)))

  pub goes_down : (n at : ℕ) → leads_on (length words) n (get_or words at 0) ≡ true
      → descend words vpn global (suc n) at ≡ descend words vpn global n (index_below vpn n (get_or words at 0))
  unfolding descend leads_on
  goes_down n at h = go (present w) (broken (length words) (stretch_size n) w) h
    where
      w : ℕ
      w = get_or words at 0

      next : Walk
      next = descend words vpn global n (index_below vpn n w)

      go : (p b : Bool) → p && not b ≡ true
          → cond p (cond b (Broken (stop_at global (suc n))) next) (Absent (stop_at global (suc n))) ≡ next
      go true true e = absurd (clash e refl)
      go true false e = refl
      go false b e = absurd (clash e refl)

-- the three words of a page that has a leaf
pub record Way (words : List ℕ) (id vpn : ℕ) (f : Found) : Type 0 where
  pub root-leads : leads_on (length words) 1 (get_or words id 0) ≡ true
  pub word-leads : leads_on (length words) 0 (directory_word words (number (get_or words id 0)) (vpn / 1024)) ≡ true
  pub index_is : f.index ≡ 1024 * number (directory_word words (number (get_or words id 0)) (vpn / 1024)) + vpn % 1024
  pub word-is : f.word ≡ get_or words f.index 0
  pub is-present : present (get_or words f.index 0) ≡ true

pub way_of : (words : List ℕ) (id vpn : ℕ) (f : Found) → walk_tree words vpn false id ≡ Leaf f → Way words id vpn f
unfolding walk_tree index_below stretch_size index_in directory_word leaf_at
way_of words id vpn f h =
    let top = way_down words vpn false 1 id f h in
    let mid = way_down words vpn false 0 (index_below vpn 1 (get_or words id 0)) f top.1 in
    let at : ℕ = index_below vpn 0 (get_or words (index_below vpn 1 (get_or words id 0)) 0) in
    let end = way_end words vpn false at f mid.1 in
    let place : f.index ≡ at = sym (ap (λ (x : Found). x.index) end.1) in
    record {
      root-leads = top.0;
      word-leads = mid.0;
      index_is = place;
      word-is = sym (ap (λ (x : Found). x.word) end.1) ∙ ap (λ (k : ℕ). get_or words k 0) (sym place);
      is-present = subst (λ (k : ℕ). present (get_or words k 0) ≡ true) (sym place) end.0;
    }

ends-absent : (words : List ℕ) (vpn at : ℕ) → present (get_or words at 0) ≡ false → descend words vpn false 0 at ≡ Absent (stop_at false 0)
unfolding descend
ends-absent words vpn at h = rw h

-- a walk that comes to a word that is not present
pub way-absent : (words : List ℕ) (id vpn : ℕ) → leads_on (length words) 1 (get_or words id 0) ≡ true
    → leads_on (length words) 0 (directory_word words (number (get_or words id 0)) (vpn / 1024)) ≡ true
    → present (get_or words (1024 * number (directory_word words (number (get_or words id 0)) (vpn / 1024)) + vpn % 1024) 0) ≡ false
    → walk_tree words vpn false id ≡ Absent (stop_at false 0)
unfolding walk_tree index_below stretch_size index_in directory_word
way-absent words id vpn root word none =
    goes_down words vpn false 1 id root ∙ goes_down words vpn false 0 (512 * number (get_or words id 0) + vpn / 1024) word ∙ ends
  where
    ends : descend words vpn false 0 (1024 * number (get_or words (512 * number (get_or words id 0) + vpn / 1024) 0) + vpn % 1024)
        ≡ Absent (stop_at false 0)
    ends = ends-absent words vpn (1024 * number (get_or words (512 * number (get_or words id 0) + vpn / 1024) 0) + vpn % 1024) none
