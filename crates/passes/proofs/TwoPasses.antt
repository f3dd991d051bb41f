-- A leaf that a pass visits is gone within two passes. Assumes nothing.
use Prim.Native.Nat.{ℕ}
use mathlib.Core.Path.{◌≡◌, sym, ap, ap₂, ◌∙◌, subst}
use mathlib.Core.Bool.{true}
use mathlib.Core.List.{List}
use native.Mathlib.Omega.{arith}
use Rattle.trees.specs.Trees.{tree_fits}
use Rattle.collector.proofs.Puts.{pass_words}
use Rattle.passes.specs.Gone.{GoneIn, GoneInTwoPasses}
use Rattle.passes.proofs.Accepted.{grounds, words-now}
use Rattle.page_table.specs.Words.{leaf_pfn}
use Rattle.passes.proofs.Ages.{in-pool}
use Rattle.passes.proofs.GoneWords.{gone-words}

pub gone-in-two-passes : GoneInTwoPasses
unfolding GoneInTwoPasses
gone-in-two-passes m next p q id one two buffer₁ buffer₂ words₁ words₂ first-pass same first-same size_same second-pass vpn f page
    found low high =
    let g = grounds m p id one buffer₁ words₁ first-pass in
    let h = grounds next q id two buffer₂ words₂ second-pass in
    let known = g.known in
    let w₁ = words-now m p id one buffer₁ words₁ first-pass in
    let fits : tree_fits (pass_words m.words p.first p.size id) id ≡ true =
    subst (λ (ws : List ℕ). tree_fits ws id ≡ true) (same ∙ w₁) h.tree-fits in
    let w₂ : words₂ ≡ pass_words (pass_words m.words p.first p.size id) p.first p.size id =
    words-now next q id two buffer₂ words₂ second-pass
    ∙ ap (λ (ws : List ℕ). pass_words ws q.first q.size id) (same ∙ w₁)
    ∙ ap₂ (λ (a b : ℕ). pass_words (pass_words m.words p.first p.size id) a b id) first-same size_same in
    let gone = gone-words m.words p.first p.size id (omega arith) g.tree-fits fits vpn f page found
    (in-pool p.first p.size (leaf_pfn f.word) low high) in
    subst (λ (ws : List ℕ). GoneIn words₁ ws id vpn f) (sym w₂)
    (subst (λ (ws : List ℕ). GoneIn ws (pass_words (pass_words m.words p.first p.size id) p.first p.size id) id vpn f)
    (sym w₁) gone)
