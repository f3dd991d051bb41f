use Rattle.page_table.specs.Words.{leaf_valid}
use mathlib.Core.Path.{refl}
use Rattle.collector.proofs.leaves.is_valid.Goals as goal

pub returns : goal.returns
unfolding leaf_valid
returns c = refl
