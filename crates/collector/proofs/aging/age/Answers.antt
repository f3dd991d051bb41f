use mathlib.Core.Path.{refl, ap, ◌∙◌}
use native.Mathlib.Omega.{arith}
use Rattle.page_table.proofs.Stretches.{fit-bounds, fit-roots}
use Rattle.collector.specs.Turns.{turns}
use Rattle.collector.proofs.CollectLaws.{leaves_none, leaves-tree, root-tree}
use Rattle.collector.proofs.aging.age.Goals as goal

pub bounds-words-id : goal.bounds-words-id
bounds-words-id c = omega (arith, fit-roots _ c.requires.1, c.requires.2)

pub returns-then-not-leads_on : goal.returns-then-not-leads_on
unfolding turns
returns-then-not-leads_on c = ap (turns _) (leaves_none _ _ _ refl _ c.leads_on.ensures _ _ c.if-not-leads_on.true-raw)

pub age_tree-requires : goal.age_tree-requires
age_tree-requires c = let start = c.requires in
    let long = fit-bounds _ start.1 in
    let leads = c.leads_on.ensures in
    let own = root-tree _ _ _ refl _ leads c.if-not-leads_on.false-raw _ c.number_of.ensures start.3 in
    (start.0, omega arith, long.1, own.0, own.1)

pub returns : goal.returns
returns c = c.age_tree.ensures
    ∙ ap (turns _)
    (leaves-tree _ _ _ refl _ c.leads_on.ensures
    c.if-not-leads_on.false-raw _
    c.number_of.ensures _ _)
