-- A pass changes no word but the leaves that it visits. Assumes nothing.
use Prim.Native.Nat.{ℕ, zero, suc, ◌+◌, ◌≤◌, ◌<◌}
use mathlib.Core.Path.{◌≡◌, refl, sym, ap, ◌∙◌, subst}
use mathlib.Core.Bool.{Bool, true, false, cond}
use mathlib.Core.List.{List, [], ◌∷◌}
use native.Mathlib.Omega.{arith}
use lib.ListN.{get_or}
use Rattle.page_table.specs.Words.{leaf_pfn}
use Rattle.page_table.specs.Walk.{walk_tree}
use Rattle.page_table.specs.declared.Walk.{Walk}
use Rattle.page_table.specs.declared.Walk.TheVariants.{Leaf, Absent, Broken}
use Rattle.store.specs.Rewrite.{Put}
use Rattle.store.specs.Scan.{put_at}
use Rattle.store.proofs.Scans.{Every, Elsewhere, elsewhere-both, written-other}
use Rattle.heap.specs.declared.Pool.{Pool}
use Rattle.collector.specs.Visits.{in_pool, aged_puts, pass_leaves}
use Rattle.collector.proofs.Puts.{aged-append, pass_words}
use Rattle.passes.specs.Pages.{page_leaf, page_leaves, VisitsPages}
use Rattle.passes.specs.Only.{IsVisited, OnlyVisitedChange}
use Rattle.passes.proofs.Ages.{pool-in}
use Rattle.passes.proofs.PageLaws.{visits-pages}
use Rattle.passes.proofs.Accepted.{words-now}

module _ (words : List ℕ) (p : Pool) (id i : ℕ) (none : IsVisited words p id i → ⊥) where
  one-elsewhere : (vpn : ℕ) → vpn < 524288 → Elsewhere (aged_puts (page_leaf p.first p.size (walk_tree words vpn false id))) i
  unfolding IsVisited page_leaf aged_puts Every
  one-elsewhere vpn page = by-walk (walk_tree words vpn false id) refl
    where
      by-walk : (w : Walk) → walk_tree words vpn false id ≡ w → Elsewhere (aged_puts (page_leaf p.first p.size w)) i
      by-walk (Absent s) e = tt
      by-walk (Broken s) e = tt
      by-walk (Leaf f) e = by-pool (in_pool p.first p.size (leaf_pfn f.word)) refl
        where
          by-pool : (b : Bool) → in_pool p.first p.size (leaf_pfn f.word) ≡ b
              → Elsewhere (aged_puts (cond b (put_at f.index f.word ∷ []) [])) i
          by-pool false q = tt
          by-pool true q =
              let within = pool-in p.first p.size (leaf_pfn f.word) q in
              ((λ (at : f.index ≡ i). none (vpn, f, page, e, within.0, within.1, at)), tt)

  pages-elsewhere : (n : ℕ) → n ≤ 524288 → Elsewhere (aged_puts (page_leaves words p.first p.size id 0 n)) i
  unfolding page_leaves aged_puts Every
  pages-elsewhere zero l = tt
  pages-elsewhere (suc n) l =
      subst (λ (ps : List Put). Elsewhere ps i)
      (sym (aged-append (page_leaves words p.first p.size id 0 n) (page_leaf p.first p.size (walk_tree words (0 + n) false id))))
      (elsewhere-both (aged_puts (page_leaves words p.first p.size id 0 n))
      (aged_puts (page_leaf p.first p.size (walk_tree words (0 + n) false id))) i
      (pages-elsewhere n (omega arith)) (one-elsewhere (0 + n) (omega arith)))

  pub word-stays : get_or (pass_words words p.first p.size id) i 0 ≡ get_or words i 0
  unfolding pass_words VisitsPages
  word-stays =
      written-other (aged_puts (pass_leaves words p.first p.size id)) words i
      (subst (λ (ls : List Put). Elsewhere (aged_puts ls) i) (sym (visits-pages words p.first p.size id))
      (pages-elsewhere 524288 (omega arith)))

pub only-visited-change : OnlyVisitedChange
unfolding OnlyVisitedChange
only-visited-change m p id answer buffer-after words-after pass i none =
    ap (λ (ws : List ℕ). get_or ws i 0) (words-now m p id answer buffer-after words-after pass) ∙ word-stays m.words p id i none
