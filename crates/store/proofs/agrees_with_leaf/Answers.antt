-- `store::agrees_with_leaf` meets its contract. Assumes nothing.
use Rattle.store.proofs.KeptLaws.{agrees-none, agrees-leaf}
use Rattle.store.proofs.agrees_with_leaf.Goals as goal

pub returns-in_default : goal.returns-in_default
returns-in_default c = agrees-none _ _ c.requires.0 _ c.in_default.not-Leaf

pub returns : goal.returns
returns c = let ends = c.in-Leaf.is in
    agrees-leaf _ _ c.requires.0 _ _ _ ends c.requires.1 c.leaf_entry.ensures
