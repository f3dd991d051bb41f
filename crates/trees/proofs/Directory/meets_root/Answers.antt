use Rattle.trees.proofs.TreeLaws.{root-room, root-own, root-nowhere, root-there}
use Rattle.trees.proofs.Directory.meets_root.Goals as goal

pub returns-then-root-id : goal.returns-then-root-id
returns-then-root-id c = root-own _ _ _ _ c.if-root-id.true

pub returns-then-not-leads_on : goal.returns-then-not-leads_on
returns-then-not-leads_on c = root-nowhere _ _ _ _ c.if-root-id.false _ c.leads_on.ensures c.if-not-leads_on.true-raw

pub meets-requires : goal.meets-requires
meets-requires c = root-room _ _ _ _ c.leads_on.ensures c.if-not-leads_on.false-raw c.number_of.ensures

pub returns : goal.returns
returns c = root-there _ _ _ _ c.if-root-id.false _ c.leads_on.ensures
    c.if-not-leads_on.false-raw _ c.number_of.ensures _ c.meets.ensures
