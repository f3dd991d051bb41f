use mathlib.Core.Path.{refl, sym, ap, ◌∙◌}
use mathlib.Core.List.{List}
use native.Mathlib.Omega.{arith}
use borrow.Author.Tests.{not-false}
use Rattle.page_table.proofs.Stretches.{fit-bounds, fit-roots}
use Rattle.store.specs.Rewrite.{Put}
use Rattle.collector.specs.Frames.{pfns_of, all_given}
use Rattle.collector.proofs.CollectLaws.{leaves_none, leaves-tree, root-tree, tree-refused, frames-decide, none-visited, whole-pool}
use Rattle.collector.proofs.may_collect.Goals as goal

pub tree_fits-requires : goal.tree_fits-requires
tree_fits-requires c = (fit-roots _ c.requires.0, c.requires.1)

pub returns-then-not-tree_fits : goal.returns-then-not-tree_fits
returns-then-not-tree_fits c = tree-refused _ _ _ _ c.tree_fits.ensures c.if-not-tree_fits.true-raw

pub bounds-words-id : goal.bounds-words-id
bounds-words-id c = omega (arith, fit-roots _ c.requires.0, c.requires.1)

pub returns-then-not-leads_on : goal.returns-then-not-leads_on
returns-then-not-leads_on c = let sound = whole-pool _ c.well_formed.1.0.1.1.1.1.0.1.0.1
    c.requires.2 in
    none-visited _ _ _ _ c.tree_fits.ensures sound c.if-not-tree_fits.false-raw
    (leaves_none _ _ _ refl _ c.leads_on.ensures _ _ c.if-not-leads_on.true-raw)

pub may_give_tree-requires : goal.may_give_tree-requires
may_give_tree-requires c = let fits = sym c.tree_fits.ensures
    ∙ not-false _ c.if-not-tree_fits.false-raw in
    let own = root-tree _ _ _ refl _ c.leads_on.ensures c.if-not-leads_on.false-raw _ c.number_of.ensures fits in
    ((fit-bounds _ c.requires.0).1, own.0)

pub returns : goal.returns
returns c = let sound = whole-pool _ c.well_formed.1.0.1.1.1.1.0.1.0.1
    c.requires.2 in
    let leaves = leaves-tree _ _ _ refl _ c.leads_on.ensures c.if-not-leads_on.false-raw _
    c.number_of.ensures _ _ in
    frames-decide _ _ _ _ c.tree_fits.ensures sound
    c.if-not-tree_fits.false-raw _
    (c.may_give_tree.ensures ∙ ap (λ (ls : List Put). all_given
    c.args.pool (pfns_of ls)) leaves)
