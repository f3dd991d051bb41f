-- `page_table::stretch_size` meets its contract. Assumes nothing.
use Rattle.page_table.proofs.Stretches.{size-table, size-directory}
use Rattle.page_table.proofs.stretch_size.Goals as goal

pub returns-then-levels-eq0 : goal.returns-then-levels-eq0
returns-then-levels-eq0 c = size-table _ c.if-levels-eq0.true

pub returns-else-levels-eq0 : goal.returns-else-levels-eq0
returns-else-levels-eq0 c = size-directory _ c.if-levels-eq0.false
