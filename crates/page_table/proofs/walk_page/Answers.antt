-- `page_table::walk_page` meets its contract. Assumes nothing.
use Rattle.page_table.proofs.Descents.{first-decides, own-decides}
use Rattle.page_table.proofs.walk_page.Goals as goal

pub returns-in_default : goal.returns-in_default
returns-in_default g c = first-decides _ _ _ _ c.walk_tree-first.ensures c.in_default.not-Absent

pub returns : goal.returns
returns g c = let first = c.walk_tree-first.ensures in
    own-decides _ _ _ _ first c.in-Absent.is _ c.walk_tree.ensures
