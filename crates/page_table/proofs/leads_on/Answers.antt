-- `page_table::leads_on` meets its contract. Assumes nothing.
use Rattle.page_table.specs.Reads.{leads_on}
use Rattle.page_table.proofs.Descents.{size-bounds}
use Rattle.page_table.proofs.leads_on.Goals as goal

pub is_broken-requires : goal.is_broken-requires
is_broken-requires c = size-bounds _ _ c.stretch_size-size.ensures

pub returns : goal.returns
unfolding leads_on
returns c = rw (← c.stretch_size-size.ensures, c.is_present.ensures, c.is_broken.ensures)
