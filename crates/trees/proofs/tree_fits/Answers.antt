use Rattle.trees.proofs.TreeLaws.{root-room, fits-absent, fits-broken, fits-apart}
use Rattle.trees.proofs.tree_fits.Goals as goal

pub returns-then-not-is_present : goal.returns-then-not-is_present
returns-then-not-is_present c = fits-absent _ _ _ c.is_present.ensures c.if-not-is_present.true-raw

pub returns-then-not-leads_on : goal.returns-then-not-leads_on
returns-then-not-leads_on c = fits-broken _ _ _ c.is_present.ensures c.if-not-is_present.false-raw _ c.leads_on.ensures
    c.if-not-leads_on.true-raw

pub invariant_of-directory : goal.invariant_of-directory
invariant_of-directory c = record { inside = root-room _ _ _ _ c.leads_on.ensures c.if-not-leads_on.false-raw c.number_of.ensures }

pub returns : goal.returns
returns c = fits-apart _ _ _ c.is_present.ensures c.if-not-is_present.false-raw _
    c.leads_on.ensures c.if-not-leads_on.false-raw _ c.number_of.ensures _
    c.stands_apart.ensures
