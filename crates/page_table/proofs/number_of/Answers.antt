-- `page_table::number_of` meets its contract. Assumes nothing.
use Rattle.page_table.proofs.Stretches.{number_is}
use Rattle.page_table.proofs.number_of.Goals as goal

pub returns : goal.returns
returns c = number_is _
