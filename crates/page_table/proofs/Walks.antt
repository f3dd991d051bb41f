-- Laws of the walk: what its answers say, and which tree decides. Assumes nothing.
use Prim.Native.Nat.{ℕ, zero, suc, ◌≤◌, ◌<◌}
use mathlib.Core.Path.{◌≡◌, refl, sym, ap, ◌∙◌, subst}
use mathlib.Core.Bool.{Bool, true, false, cond}
use mathlib.Core.List.{List}
use lib.ListN.{length, get_or}
use native.Mathlib.Omega.{arith}
use Rattle.page_table.specs.Words.{present}
use Rattle.page_table.specs.Stretches.{stretch_size, broken}
use Rattle.page_table.specs.Walk.{leaf_at, stop_at, index_below, descend, walk_tree, global_first, walk_page}
use Rattle.page_table.specs.declared.Found.{Found}
use Rattle.page_table.specs.declared.Stop.{Stop}
use Rattle.page_table.specs.declared.Walk.{Walk}
use Rattle.page_table.specs.declared.Walk.TheVariants.{Leaf, Absent, Broken}
use Rattle.page_table.proofs.Stretches.{index-lt, sound-inside}

-- the word that a word leads on to stands in the run
pub below-inside : (length vpn n w : ℕ) → vpn < 524288 → broken length (stretch_size n) w ≡ false → index_below vpn n w < length
unfolding index_below
below-inside length vpn n w page sound = omega (arith, index-lt n vpn page, sound-inside length (stretch_size n) w sound)

-- What is so of every leaf and every stop of a tree is so of its walk's answer. A leaf is a present word of the run; a stop's level is
-- that of a word on the way.
module _ (words : List ℕ) (vpn : ℕ) (global : Bool) (P : Walk → Type 0) (top : ℕ)
    (leaf : (at : ℕ) → present (get_or words at 0) ≡ true → (vpn < 524288 → top < length words → at < length words)
    → P (Leaf (leaf_at words global at)))
    (absent : (n : ℕ) → n ≤ 2 → P (Absent (stop_at global n)))
    (stuck : (n : ℕ) → 1 ≤ n → n ≤ 2 → P (Broken (stop_at global n))) where
  from : (n at : ℕ) → n ≤ 2 → (vpn < 524288 → top < length words → at < length words) → P (descend words vpn global n at)
  unfolding descend
  from zero at l h = go (present (get_or words at 0)) refl
    where
      go : (b : Bool) → present (get_or words at 0) ≡ b → P (cond b (Leaf (leaf_at words global at)) (Absent (stop_at global 0)))
      go true e = leaf at e h
      go false e = absent 0 l
  from (suc n) at l h = go (present w) (broken (length words) (stretch_size n) w) refl (from n (index_below vpn n w) (omega arith))
    where
      w : ℕ
      w = get_or words at 0

      next : Walk
      next = descend words vpn global n (index_below vpn n w)

      go : (b d : Bool) → broken (length words) (stretch_size n) w ≡ d
          → ((vpn < 524288 → top < length words → index_below vpn n w < length words) → P next)
          → P (cond b (cond d (Broken (stop_at global (suc n))) next) (Absent (stop_at global (suc n))))
      go true true e ih = stuck (suc n) (omega arith) l
      go true false e ih = ih (λ page inside. below-inside (length words) vpn n w page e)
      go false d e ih = absent (suc n) l

  pub tree-answers : P (walk_tree words vpn global top)
  unfolding walk_tree
  tree-answers = from 2 top (omega arith) (λ page inside. inside)

-- whose tree an answer speaks of
unfoldable pub whose : Walk → Bool
whose (Leaf f) = f.global
whose (Absent s) = s.global
whose (Broken s) = s.global

pub tree-whose : (words : List ℕ) (vpn : ℕ) (global : Bool) (root : ℕ) → whose (walk_tree words vpn global root) ≡ global
unfolding whose leaf_at stop_at
tree-whose words vpn global root =
    tree-answers words vpn global (λ x. whose x ≡ global) root (λ at on h. refl) (λ n l. refl) (λ n k l. refl)

-- a stop's level: root 1, directory 2, leaf 3, and no leaf is broken
unfoldable pub Levelled : Walk → Type 0
Levelled (Leaf f) = Unit {0}
Levelled (Absent s) = (1 ≤ s.level) × (s.level ≤ 3)
Levelled (Broken s) = (1 ≤ s.level) × (s.level ≤ 2)

pub tree-level : (words : List ℕ) (vpn : ℕ) (global : Bool) (root : ℕ) → Levelled (walk_tree words vpn global root)
unfolding Levelled stop_at
tree-level words vpn global root =
    tree-answers words vpn global Levelled root (λ at on h. tt) (λ n l. (omega arith, omega arith)) (λ n k l. (omega arith, omega arith))

-- a leaf is the word at its index, which is present and stands in the run
pub record Stands (words : List ℕ) (f : Found) : Type 0 where
  pub is_present : present f.word ≡ true
  pub is_read : f.word ≡ get_or words f.index 0
  pub inside : f.index < length words

pub tree-stands : (words : List ℕ) (vpn : ℕ) (global : Bool) (root : ℕ) → vpn < 524288 → root < length words
    → (f : Found) → walk_tree words vpn global root ≡ Leaf f → Stands words f
unfolding leaf_at
tree-stands words vpn global root page inside =
    tree-answers words vpn global (λ x. (f : Found) → x ≡ Leaf f → Stands words f) root
    (λ at on h f e.
    let q : leaf_at words global at ≡ f = cc in
    subst (Stands words) q (record { is_present = on; is_read = refl; inside = h page inside }))
    (λ n l f e. absurd (let z : ◌≡◌ {A = ℕ} 0 1 = cc in omega arith))
    (λ n k l f e. absurd (let z : ◌≡◌ {A = ℕ} 0 1 = cc in omega arith))

-- what both trees' answers are, the page's walk is
first-keeps : (P : Walk → Type 0) (x own : Walk) → P x → P own → P (global_first x own)
unfolding global_first
first-keeps P (Leaf f) own p q = p
first-keeps P (Absent s) own p q = q
first-keeps P (Broken s) own p q = p

module _ (words : List ℕ) (vpn : ℕ) where
  pub walk-level : (id : ℕ) → Levelled (walk_page words id vpn)
  unfolding walk_page
  walk-level id =
      first-keeps Levelled (walk_tree words vpn true 63) (walk_tree words vpn false id)
      (tree-level words vpn true 63)
      (tree-level words vpn false id)

  pub walk-stands : (id : ℕ) → id ≤ 63 → vpn < 524288 → 64 ≤ length words
      → (f : Found) → walk_page words id vpn ≡ Leaf f → Stands words f
  unfolding walk_page
  walk-stands id known page roots =
      first-keeps (λ x. (f : Found) → x ≡ Leaf f → Stands words f) (walk_tree words vpn true 63) (walk_tree words vpn false id)
      (tree-stands words vpn true 63 page (omega arith))
      (tree-stands words vpn false id page (omega arith))

  pub tree-leaf : (global : Bool) (root : ℕ) {f : Found} → walk_tree words vpn global root ≡ Leaf f → f.global ≡ global
  unfolding whose
  tree-leaf global root e = sym (ap whose e) ∙ tree-whose words vpn global root

  -- where the global tree has nothing, the walk is the own tree's
  pub own-walk : (id : ℕ) {s : Stop} → walk_tree words vpn true 63 ≡ Absent s → walk_page words id vpn ≡ walk_tree words vpn false id
  unfolding walk_page global_first
  own-walk id e = rw e

  -- its leaf then gives global 0, and so does the stop of a walk that ends as absent
  pub own-leaf : (id : ℕ) {s : Stop} {f : Found} → walk_tree words vpn true 63 ≡ Absent s → walk_page words id vpn ≡ Leaf f
      → f.global ≡ false
  own-leaf id e q = tree-leaf false id (sym (own-walk id e) ∙ q)

  pub absent-own : (id : ℕ) {s : Stop} → walk_page words id vpn ≡ Absent s → s.global ≡ false
  unfolding walk_page global_first whose
  absent-own id {s} e = go (walk_tree words vpn true 63) e
    where
      go : (x : Walk) → global_first x (walk_tree words vpn false id) ≡ Absent s → s.global ≡ false
      go (Leaf f) q = absurd (let z : ◌≡◌ {A = ℕ} 0 1 = cc in omega arith)
      go (Absent t) q = sym (ap whose q) ∙ tree-whose words vpn false id
      go (Broken t) q = absurd (let z : ◌≡◌ {A = ℕ} 0 1 = cc in omega arith)

  -- a leaf stands in the tree that it names
  pub leaf-tree : (id : ℕ) (f : Found) → walk_page words id vpn ≡ Leaf f → walk_tree words vpn f.global (cond f.global 63 id) ≡ Leaf f
  unfolding walk_page global_first
  leaf-tree id f e = go (walk_tree words vpn true 63) refl e
    where
      In : Bool → Type 0
      In g = walk_tree words vpn g (cond g 63 id) ≡ Leaf f

      there : (g : Bool) → f.global ≡ g → In g → In f.global
      there g q t = subst In (sym q) t

      go : (x : Walk) → walk_tree words vpn true 63 ≡ x → global_first x (walk_tree words vpn false id) ≡ Leaf f → In f.global
      go (Leaf g) t q = there true (tree-leaf true 63 (t ∙ q)) (t ∙ q)
      go (Absent s) t q = there false (tree-leaf false id q) q
      go (Broken s) t q = absurd (let z : ◌≡◌ {A = ℕ} 0 1 = cc in omega arith)

  -- a page that the global tree maps has the same leaf under every identification
  pub global-any : (a b : ℕ) {f : Found} → walk_page words a vpn ≡ Leaf f → f.global ≡ true → walk_page words b vpn ≡ Leaf f
  unfolding walk_page global_first
  global-any a b {f} e g = rw (subst (λ (k : Bool). walk_tree words vpn k (cond k 63 a) ≡ Leaf f) g (leaf-tree a f e))

  pub same-global : (a b : ℕ) {f h : Found} → walk_page words a vpn ≡ Leaf f → walk_page words b vpn ≡ Leaf h → f.global ≡ h.global
  same-global a b {f} {h} p q = go f.global h.global refl refl
    where
      go : (g k : Bool) → f.global ≡ g → h.global ≡ k → g ≡ k
      go true true m n = refl
      go false false m n = refl
      go true false m n = let r = global-any a b p m in cc
      go false true m n = let r = global-any b a q n in cc
