use Rattle.trees.specs.Trees.{overlaps}
use Rattle.trees.proofs.Directory.overlaps.Goals as goal

pub returns : goal.returns
unfolding overlaps
returns c = c.names_table.ensures
