-- The frame of a visited leaf goes back exactly where the leaf was not valid. Assumes nothing.
use Prim.Native.Nat.{ℕ, zero, suc, ◌+◌, ◌≤◌, ◌<◌}
use mathlib.Core.Path.{◌≡◌, refl, sym, ap, ◌∙◌}
use mathlib.Core.Logic.{⊎_elim}
use mathlib.Core.Bool.{Bool, true, false, cond}
use mathlib.Core.List.{List, [], ◌∷◌, ◌++◌}
use native.Mathlib.Nat.{eq-or-lt_of_le, le_of_suc-le-suc, zero-add}
use native.Mathlib.Omega.{arith}
use lib.Dec.{eqb}
use borrow.Author.Tests.{eq-eqb}
use Rattle.runs.specs.Bits.{bit}
use Rattle.runs.proofs.Bits.{bit_le}
use Rattle.page_table.specs.Words.{leaf_valid, leaf_pfn}
use Rattle.page_table.specs.Walk.{walk_tree}
use Rattle.page_table.specs.declared.Found.{Found}
use Rattle.page_table.specs.declared.Walk.TheVariants.{Leaf}
use Rattle.store.specs.Rewrite.{Put}
use Rattle.store.specs.Scan.{put_at}
use Rattle.heap.specs.Pools.{holds}
use Rattle.heap.specs.Sequences.{times}
use Rattle.heap.specs.declared.Pool.{Pool}
use Rattle.heap.proofs.Accounts.{Account, times-append}
use Rattle.collector.specs.Visits.{in_pool, aged, pass_leaves}
use Rattle.collector.specs.Frames.{pfns_of, given_of}
use Rattle.collector.proofs.CheckLaws.{pfns-append}
use Rattle.collector.proofs.FrameLaws.{all-within}
use Rattle.passes.specs.Pages.{page_leaf, page_leaves, VisitsPages}
use Rattle.passes.specs.Frames.{FrameGoesBack}
use Rattle.passes.proofs.Ages.{in-pool}
use Rattle.passes.proofs.PageLaws.{visits-pages}
use Rattle.passes.proofs.Repeat.{kept_of, given-append, kept_append, aged-pfn, parts}
use Rattle.passes.proofs.Repeated.{sound, all_fit, pass-account}

-- what adds up over lists counts the leaf of each page
page-counts : (words : List ℕ) (first size id vpn : ℕ) (g : List Put → ℕ) → ((a b : List Put) → g (a ++ b) ≡ g a + g b) → (n : ℕ) → vpn < n
    → g (page_leaf first size (walk_tree words vpn false id)) ≤ g (page_leaves words first size id 0 n)
unfolding page_leaves
page-counts words first size id vpn g adds zero l = absurd (omega arith)
page-counts words first size id vpn g adds (suc n) l =
    let sum = adds (page_leaves words first size id 0 n) (page_leaf first size (walk_tree words (0 + n) false id)) in
    ⊎_elim
    (λ (e : vpn ≡ n).
    let same = ap (λ (k : ℕ). g (page_leaf first size (walk_tree words k false id))) (e ∙ sym (zero-add n)) in
    omega arith)
    (λ (l' : vpn < n). let rest = page-counts words first size id vpn g adds n l' in omega arith)
    (eq-or-lt_of_le (le_of_suc-le-suc l))

-- a visited leaf: its frame is among those that go back, or among those that stay
module _ (words : List ℕ) (first size id vpn : ℕ) (f : Found) (page : vpn < 524288) (found : walk_tree words vpn false id ≡ Leaf f)
    (chosen : in_pool first size (leaf_pfn f.word) ≡ true) where
  abbrev pfn : ℕ
  pfn = leaf_pfn f.word

  abbrev back : List Put → ℕ
  back ls = times pfn (given_of ls)

  abbrev stay : List Put → ℕ
  stay ls = times pfn (pfns_of (kept_of ls))

  here : page_leaf first size (walk_tree words vpn false id) ≡ put_at f.index f.word ∷ []
  unfolding page_leaf
  here = ap (page_leaf first size) found ∙ ap (λ (b : Bool). cond b (put_at f.index f.word ∷ []) []) chosen

  counted : (g : List Put → ℕ) → ((a b : List Put) → g (a ++ b) ≡ g a + g b)
      → g (put_at f.index f.word ∷ []) ≤ g (pass_leaves words first size id)
  unfolding VisitsPages
  counted g adds =
      let some = page-counts words first size id vpn g adds 524288 page in
      let all = ap g (visits-pages words first size id) in
      let one = ap g here in
      omega arith

  own-times : bit (eqb (leaf_pfn f.word) (leaf_pfn f.word)) ≡ 1
  own-times = ap bit (eq-eqb (leaf_pfn f.word) (leaf_pfn f.word) refl)

  pub old-back : leaf_valid f.word ≡ false → 1 ≤ times (leaf_pfn f.word) (given_of (pass_leaves words first size id))
  unfolding given_of times
  old-back old =
      let some = counted back (λ a b. ap (times pfn) (given-append a b) ∙ times-append pfn (given_of a) (given_of b)) in
      let one : times pfn (given_of (put_at f.index f.word ∷ [])) ≡ 1 =
      ap (λ (b : Bool). times pfn (cond b [] (leaf_pfn f.word ∷ []))) old ∙ ap (λ (n : ℕ). n + 0) own-times in
      omega arith

  pub young-stays : leaf_valid f.word ≡ true → 1 ≤ times (leaf_pfn f.word) (pfns_of (kept_of (pass_leaves words first size id)))
  unfolding kept_of pfns_of times
  young-stays young =
      let some = counted stay (λ a b.
      ap (λ (ls : List Put). times pfn (pfns_of ls)) (kept_append a b) ∙ ap (times pfn) (pfns-append (kept_of a) (kept_of b))
      ∙ times-append pfn (pfns_of (kept_of a)) (pfns_of (kept_of b))) in
      let one : times pfn (pfns_of (kept_of (put_at f.index f.word ∷ []))) ≡ 1 =
      ap (λ (b : Bool). times pfn (pfns_of (cond b (put_at f.index (aged f.word) ∷ []) []))) young
      ∙ ap (λ (n : ℕ). bit (eqb n pfn) + 0) (aged-pfn f.word young) ∙ ap (λ (n : ℕ). n + 0) own-times in
      omega arith

pub bit-true : (b : Bool) → 1 ≤ bit b → b ≡ true
bit-true true l = refl
bit-true false l = absurd (omega arith)

bit-false : (b : Bool) → bit b ≤ 0 → b ≡ false
bit-false true l = absurd (omega arith)
bit-false false l = refl

-- one frame of an account that takes none
frame-of : {p q : Pool} {given : List ℕ} → Account p q [] given → (pfn : ℕ) → bit (holds p pfn) ≡ times pfn given + bit (holds q pfn)
unfolding times
frame-of {p} {q} {given} a pfn = sym (zero-add (bit (holds p pfn))) ∙ a.frame pfn

pub frame-goes-back : FrameGoesBack
unfolding FrameGoesBack
frame-goes-back m p id answer buffer-after words-after whole pass vpn f page found low high =
    by-valid (leaf_valid f.word) refl
  where
    chosen : in_pool p.first p.size (leaf_pfn f.word) ≡ true
    chosen = in-pool p.first p.size (leaf_pfn f.word) low high

    within : times (leaf_pfn f.word) (pfns_of (pass_leaves m.words p.first p.size id)) ≤ bit (holds p (leaf_pfn f.word))
    within =
        all-within p (sound m p id answer buffer-after words-after whole pass) (pfns_of (pass_leaves m.words p.first p.size id))
        (all_fit m p id answer buffer-after words-after whole pass) (leaf_pfn f.word)

    sum : times (leaf_pfn f.word) (pfns_of (kept_of (pass_leaves m.words p.first p.size id)))
        + times (leaf_pfn f.word) (given_of (pass_leaves m.words p.first p.size id))
        ≡ times (leaf_pfn f.word) (pfns_of (pass_leaves m.words p.first p.size id))
    sum = parts (leaf_pfn f.word) (pass_leaves m.words p.first p.size id)

    frame : bit (holds p (leaf_pfn f.word))
        ≡ times (leaf_pfn f.word) (given_of (pass_leaves m.words p.first p.size id)) + bit
        (holds answer.pool (leaf_pfn f.word))
    frame = frame-of (pass-account m p id answer buffer-after words-after whole pass) (leaf_pfn f.word)

    by-valid : (b : Bool) → leaf_valid f.word ≡ b
        → (holds p (leaf_pfn f.word) ≡ true) × (holds answer.pool (leaf_pfn f.word) ≡ b)
    by-valid true young =
        let kept = young-stays m.words p.first p.size id vpn f page found chosen young in
        let most = bit_le (holds p (leaf_pfn f.word)) in (
          bit-true (holds p (leaf_pfn f.word)) (omega (arith, within, sum)),
          bit-true (holds answer.pool (leaf_pfn f.word)) (omega (arith, within, sum, frame)),
        )
    by-valid false old =
        let gone = old-back m.words p.first p.size id vpn f page found chosen old in
        let most = bit_le (holds p (leaf_pfn f.word)) in (
          bit-true (holds p (leaf_pfn f.word)) (omega (arith, within, sum)),
          bit-false (holds answer.pool (leaf_pfn f.word)) (omega (arith, within, sum, frame)),
        )
