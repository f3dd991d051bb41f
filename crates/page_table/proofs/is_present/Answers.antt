-- `page_table::is_present` meets its contract. Assumes nothing.
use mathlib.Core.Path.{refl}
use Rattle.page_table.specs.Words.{present}
use Rattle.page_table.proofs.is_present.Goals as goal

pub returns : goal.returns
unfolding present
returns c = refl
