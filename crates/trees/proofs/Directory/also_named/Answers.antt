use Rattle.trees.proofs.TreeLaws.{also-nowhere, also-there}
use Rattle.trees.proofs.Directory.also_named.Goals as goal

pub returns-then-not-leads_on : goal.returns-then-not-leads_on
returns-then-not-leads_on c = also-nowhere _ _ _ _ _ c.leads_on.ensures c.if-not-leads_on.true-raw

pub returns : goal.returns
returns c = also-there _ _ _ _ _ c.leads_on.ensures c.if-not-leads_on.false-raw _
    c.number_of.ensures _ c.names_table.ensures
