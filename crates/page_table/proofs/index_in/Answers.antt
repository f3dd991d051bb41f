-- `page_table::index_in` meets its contract. Assumes nothing.
use Rattle.page_table.proofs.Stretches.{index-table, index-directory}
use Rattle.page_table.proofs.index_in.Goals as goal

pub returns-then-levels-eq0 : goal.returns-then-levels-eq0
returns-then-levels-eq0 c = index-table _ _ c.if-levels-eq0.true

pub returns-else-levels-eq0 : goal.returns-else-levels-eq0
returns-else-levels-eq0 c = index-directory _ _ c.if-levels-eq0.false
