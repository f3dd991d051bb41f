-- A pass is accepted exactly where none of number 12's grounds holds. Assumes nothing.
use Prim.Native.Nat.{ℕ, zero, suc, ◌+◌, ◌≤◌, ◌<◌}
use mathlib.Core.Path.{◌≡◌, refl, sym, ap, ◌∙◌, subst}
use mathlib.Core.Logic.{◌⊎◌, inl, inr, ⊎_elim}
use mathlib.Core.Bool.{Bool, true, false, cond}
use mathlib.Core.List.{List, [], ◌∷◌}
use native.Mathlib.Nat.{eq-or-lt_of_le, le_of_suc-le-suc, zero-add, lt-suc_self}
use native.Mathlib.Omega.{arith}
use lib.Dec.{eqb, leb}
use borrow.Author.Tests.{eq-eqb, eqb-true, leb-true, leb-false, le-leb}
use Rattle.runs.specs.Bits.{bit}
use Rattle.runs.proofs.Bits.{bit_le}
use Rattle.page_table.specs.Words.{leaf_pfn}
use Rattle.page_table.specs.Walk.{walk_tree}
use Rattle.page_table.specs.declared.Found.{Found}
use Rattle.page_table.specs.declared.Walk.{Walk}
use Rattle.page_table.specs.declared.Walk.TheVariants.{Leaf, Absent, Broken}
use Rattle.store.specs.Rewrite.{Put}
use Rattle.store.specs.Scan.{put_at}
use Rattle.heap.specs.Pools.{holds}
use Rattle.heap.specs.Sequences.{times}
use Rattle.heap.specs.declared.Pool.{Pool}
use Rattle.heap.proofs.Marks.{Sound}
use Rattle.heap.proofs.Accounts.{times-append}
use Rattle.trees.specs.Fitting.{FitsMeans}
use Rattle.trees.proofs.FitLaws.{fits-means}
use Rattle.collector.specs.Visits.{in_pool, pass_leaves}
use Rattle.collector.specs.Frames.{pfns_of, all_given}
use Rattle.registers.specs.Refusals.{refuse_unless}
use Rattle.runs.proofs.Bools.{is_false}
use Rattle.collector.specs.Collect.{may_collect, collect_refusal}
use Rattle.collector.proofs.CheckLaws.{pfns-append}
use Rattle.collector.proofs.FrameLaws.{all-within, within_all}
use Rattle.collector.proofs.Visited.{pass-frames}
use Rattle.collector.proofs.CollectLaws.{collect-grounds}
use Rattle.passes.specs.Pages.{page_leaf, page_leaves, VisitsPages}
use Rattle.passes.specs.Accepted.{FramesRight, AcceptedExactly, RefusedInOrder}
use Rattle.passes.proofs.Ages.{in-pool, pool-in}
use Rattle.passes.proofs.PageLaws.{visits-pages}
use Rattle.passes.proofs.Repeated.{may-by, checks-pass}
use Rattle.passes.proofs.Backs.{bit-true}

module _ (words : List ℕ) (p : Pool) (id : ℕ) where
  abbrev leaves : ℕ → List Put
  leaves n = page_leaves words p.first p.size id 0 n

  abbrev page : ℕ → List Put
  page vpn = page_leaf p.first p.size (walk_tree words vpn false id)

  adds : (pfn n : ℕ) → times pfn (pfns_of (leaves (suc n))) ≡ times pfn (pfns_of (leaves n)) + times pfn (pfns_of (page n))
  unfolding page_leaves
  adds pfn n =
      ap (times pfn) (pfns-append (leaves n) (page (0 + n)))
      ∙ times-append pfn (pfns_of (leaves n)) (pfns_of (page (0 + n)))
      ∙ ap (λ (k : ℕ). times pfn (pfns_of (leaves n)) + times pfn (pfns_of (page k))) (zero-add n)

  -- a page that maps a frame of the pool
  record Maps (pfn vpn : ℕ) : Type 0 where
    leaf : Found
    found : walk_tree words vpn false id ≡ Leaf leaf
    low : p.first ≤ leaf_pfn leaf.word
    high : leaf_pfn leaf.word < p.first + p.size
    is : leaf_pfn leaf.word ≡ pfn

  page-most : (pfn vpn : ℕ) → times pfn (pfns_of (page vpn)) ≤ 1
  unfolding page_leaf pfns_of times
  page-most pfn vpn = by-walk (walk_tree words vpn false id)
    where
      by-walk : (w : Walk) → times pfn (pfns_of (page_leaf p.first p.size w)) ≤ 1
      by-walk (Absent s) = omega arith
      by-walk (Broken s) = omega arith
      by-walk (Leaf f) = by-pool (in_pool p.first p.size (leaf_pfn f.word))
        where
          by-pool : (b : Bool) → times pfn (pfns_of (cond b (put_at f.index f.word ∷ []) [])) ≤ 1
          by-pool true = omega (arith, bit_le (eqb (leaf_pfn f.word) pfn))
          by-pool false = omega arith

  page-maps : (pfn vpn : ℕ) → 1 ≤ times pfn (pfns_of (page vpn)) → Maps pfn vpn
  unfolding page_leaf pfns_of times
  page-maps pfn vpn l = by-walk (walk_tree words vpn false id) refl l
    where
      by-walk : (w : Walk) → walk_tree words vpn false id ≡ w → 1 ≤ times pfn (pfns_of (page_leaf p.first p.size w)) → Maps pfn vpn
      by-walk (Absent s) e h = absurd (omega arith)
      by-walk (Broken s) e h = absurd (omega arith)
      by-walk (Leaf f) e h = by-pool (in_pool p.first p.size (leaf_pfn f.word)) refl h
        where
          by-pool : (b : Bool) → in_pool p.first p.size (leaf_pfn f.word) ≡ b
              → 1 ≤ times pfn (pfns_of (cond b (put_at f.index f.word ∷ []) [])) → Maps pfn vpn
          by-pool false q k = absurd (omega arith)
          by-pool true q k =
              let within = pool-in p.first p.size (leaf_pfn f.word) q in
              record {
                leaf = f;
                found = e;
                low = within.0;
                high = within.1;
                is = eqb-true (leaf_pfn f.word) pfn (bit-true (eqb (leaf_pfn f.word) pfn) (omega arith));
              }

  maps-page : (vpn : ℕ) (f : Found) → walk_tree words vpn false id ≡ Leaf f → in_pool p.first p.size (leaf_pfn f.word) ≡ true
      → (pfn : ℕ) → leaf_pfn f.word ≡ pfn → times pfn (pfns_of (page vpn)) ≡ 1
  unfolding page_leaf pfns_of times
  maps-page vpn f found chosen pfn e =
      ap (λ (w : Walk). times pfn (pfns_of (page_leaf p.first p.size w))) found
      ∙ ap (λ (b : Bool). times pfn (pfns_of (cond b (put_at f.index f.word ∷ []) []))) chosen
      ∙ ap (λ (b : Bool). bit b + 0) (eq-eqb (leaf_pfn f.word) pfn e)

  some-page : (pfn n : ℕ) → 1 ≤ times pfn (pfns_of (leaves n)) → (vpn : ℕ) × (vpn < n) × Maps pfn vpn
  unfolding page_leaves pfns_of times
  some-page pfn zero l = absurd (omega arith)
  some-page pfn (suc n) l = by_last (leb 1 (times pfn (pfns_of (page n)))) refl (λ some. some-page pfn n some)
    where
      by_last : (b : Bool) → leb 1 (times pfn (pfns_of (page n))) ≡ b
          → (1 ≤ times pfn (pfns_of (leaves n)) → (vpn : ℕ) × (vpn < n) × Maps pfn vpn) → (vpn : ℕ) × (vpn < suc n) × Maps pfn vpn
      by_last true e earlier = (n, lt-suc_self n, page-maps pfn n (leb-true 1 (times pfn (pfns_of (page n))) e))
      by_last false e earlier =
          let none = leb-false 1 (times pfn (pfns_of (page n))) e in
          let rest = earlier (omega (arith, l, adds pfn n)) in
          let l' = rest.1 in
          (rest.0, omega arith, rest.2)

  one-page : (pfn vpn n : ℕ) → vpn < n → times pfn (pfns_of (page vpn)) ≤ times pfn (pfns_of (leaves n))
  one-page pfn vpn zero l = absurd (omega arith)
  one-page pfn vpn (suc n) l =
      ⊎_elim
      (λ (e : vpn ≡ n). let same = ap (λ (k : ℕ). times pfn (pfns_of (page k))) e in omega (arith, adds pfn n))
      (λ (l' : vpn < n). omega (arith, one-page pfn vpn n l', adds pfn n))
      (eq-or-lt_of_le (le_of_suc-le-suc l))

  two-pages : (pfn a b n : ℕ) → a < b → b < n
      → times pfn (pfns_of (page a)) + times pfn (pfns_of (page b)) ≤ times pfn (pfns_of (leaves n))
  two-pages pfn a b zero l m = absurd (omega arith)
  two-pages pfn a b (suc n) l m =
      ⊎_elim
      (λ (e : b ≡ n).
      let same = ap (λ (k : ℕ). times pfn (pfns_of (page k))) e in
      let first = one-page pfn a n (omega arith) in
      omega (arith, adds pfn n))
      (λ (l' : b < n). omega (arith, two-pages pfn a b n l l', adds pfn n))
      (eq-or-lt_of_le (le_of_suc-le-suc m))

  right-within : FramesRight words p id → (pfn n : ℕ) → n ≤ 524288 → times pfn (pfns_of (leaves n)) ≤ bit (holds p pfn)
  unfolding page_leaves pfns_of times
  right-within right pfn zero l = omega arith
  right-within right pfn (suc n) l = by_last (right-within right pfn n (omega arith)) (leb 1 (times pfn (pfns_of (page n)))) refl
    where
      sum : times pfn (pfns_of (leaves (suc n))) ≡ times pfn (pfns_of (leaves n)) + times pfn (pfns_of (page n))
      sum = adds pfn n

      by_last : times pfn (pfns_of (leaves n)) ≤ bit (holds p pfn) → (b : Bool) → leb 1 (times pfn (pfns_of (page n))) ≡ b
          → times pfn (pfns_of (leaves (suc n))) ≤ bit (holds p pfn)
      by_last earlier false e =
          let none = leb-false 1 (times pfn (pfns_of (page n))) e in
          omega (arith, earlier, sum)
      by_last earlier true e = by-rest (leb 1 (times pfn (pfns_of (leaves n)))) refl
        where
          here : Maps pfn n
          here = page-maps pfn n (leb-true 1 (times pfn (pfns_of (page n))) e)

          is_held : bit (holds p pfn) ≡ 1
          is_held =
              ap (λ (k : ℕ). bit (holds p k)) (sym here.is)
              ∙ ap bit (right.held n here.leaf (omega arith) here.found here.low here.high)

          by-rest : (c : Bool) → leb 1 (times pfn (pfns_of (leaves n))) ≡ c → times pfn (pfns_of (leaves (suc n))) ≤ bit (holds p pfn)
          by-rest false q =
              let none = leb-false 1 (times pfn (pfns_of (leaves n))) q in
              omega (arith, page-most pfn n, sum, is_held)
          by-rest true q =
              let other = some-page pfn n (leb-true 1 (times pfn (pfns_of (leaves n))) q) in
              let l' = other.1 in
              let two = other.2 in
              let same = right.once n other.0 here.leaf two.leaf (omega arith) (omega arith) here.found two.found
              here.low here.high (here.is ∙ sym two.is) in
              absurd (omega arith)

  within-right : ((pfn : ℕ) → times pfn (pfns_of (leaves 524288)) ≤ bit (holds p pfn)) → FramesRight words p id
  within-right w = record {
    held = λ vpn f vl found low high.
        let one = maps-page vpn f found (in-pool p.first p.size (leaf_pfn f.word) low high) (leaf_pfn f.word) refl in
        bit-true (holds p (leaf_pfn f.word)) (omega (arith, one-page (leaf_pfn f.word) vpn 524288 vl, w (leaf_pfn f.word)));
    once = λ vpn other f g vl ol found found-too low high same.
        let one = maps-page vpn f found (in-pool p.first p.size (leaf_pfn f.word) low high) (leaf_pfn f.word) refl in
        let chosen = subst (λ (k : ℕ). in_pool p.first p.size k ≡ true) same
        (in-pool p.first p.size (leaf_pfn f.word) low high) in
        let two = maps-page other g found-too chosen (leaf_pfn f.word) (sym same) in
        ordered vpn other (leaf_pfn f.word) vl ol one two;
  }
    where
      ordered : (a b pfn : ℕ) → a < 524288 → b < 524288 → times pfn (pfns_of (page a)) ≡ 1 → times pfn (pfns_of (page b)) ≡ 1 → a ≡ b
      ordered a b pfn al bl one two = by-test (leb b a) refl (leb a b) refl
        where
          by-test : (s : Bool) → leb b a ≡ s → (t : Bool) → leb a b ≡ t → a ≡ b
          by-test false e t f =
              let m = leb-false b a e in
              absurd (omega (arith, two-pages pfn a b 524288 (omega arith) bl, w pfn, bit_le (holds p pfn)))
          by-test true e false f =
              let m = leb-false a b f in
              absurd (omega (arith, two-pages pfn b a 524288 (omega arith) al, w pfn, bit_le (holds p pfn)))
          by-test true e true f =
              let x = leb-true b a e in
              let y = leb-true a b f in
              omega arith

pub accepted-exactly : AcceptedExactly
unfolding AcceptedExactly FitsMeans VisitsPages collect_refusal refuse_unless
accepted-exactly m p id whole pool registers buffer tables known = (
  (λ z.
      let g = collect-grounds m p id z in
      let all : all_given p (pfns_of (pass_leaves m.words p.first p.size id)) ≡ true =
      pass-frames p sound m.words id ∙ g.frames-right in (
        (fits-means m.words id).0 g.tree-fits,
        within-right m.words p id (λ pfn.
            subst (λ (ls : List Put). times pfn (pfns_of ls) ≤ bit (holds p pfn)) (visits-pages m.words p.first p.size id)
            (all-within p sound (pfns_of (pass_leaves m.words p.first p.size id)) all pfn)),
      )),
  (λ tree right.
      checks-pass m p id pool registers buffer tables (le-leb id 62 known) (may-by m.words p id ((fits-means m.words id).1 tree)
      (sym (pass-frames p sound m.words id) ∙ within_all p sound (pfns_of (pass_leaves m.words p.first p.size id))
      (λ pfn. subst (λ (ls : List Put). times pfn (pfns_of ls) ≤ bit (holds p pfn)) (sym (visits-pages m.words p.first p.size id))
      (right-within m.words p id right pfn 524288 (omega arith)))))),
  either (may_collect m.words p id) refl,
)
  where
    sound : Sound p
    sound = record { all_words = whole; fits = pool }

    either : (b : Bool) → may_collect m.words p id ≡ b → (collect_refusal m p id ≡ 0) ⊎ (collect_refusal m p id ≡ 12)
    either true e = inl (rw (pool, registers, buffer, tables, le-leb id 62 known, e))
    either false e = inr (rw (pool, registers, buffer, tables, le-leb id 62 known, e))

pub refused-in-order : RefusedInOrder
unfolding RefusedInOrder collect_refusal refuse_unless
refused-in-order m p id = record {
  pool-1 = λ a. rw a;
  registers-1 = λ a b. rw (a, b);
  buffer-2 = λ a b c. rw (a, b, c);
  tables-3 = λ a b c d. rw (a, b, c, d);
  above-5 = λ a b c d above. rw (a, b, c, d, is_false (leb id 62) (λ h. let l = leb-true id 62 h in omega arith));
}
