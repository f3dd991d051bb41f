-- `page_table::index_below` meets its contract. Assumes nothing.
use native.Mathlib.Omega.{arith}
use Rattle.page_table.specs.Walk.{index_below}
use Rattle.page_table.proofs.Stretches.{stretch-room}
use Rattle.page_table.proofs.Descents.{size-bounds, room}
use Rattle.page_table.proofs.index_below.Goals as goal

pub overflow_mul-result : goal.overflow_mul-result
overflow_mul-result c = omega (arith, stretch-room _ _ _ (size-bounds _ _ c.stretch_size-size.ensures).1 c.number_of.ensures)

pub overflow_add-result : goal.overflow_add-result
overflow_add-result c = let sized = c.stretch_size-size.ensures in
    let numbered = c.number_of.ensures in
    omega (arith, room _ _ _ _ _ _ c.requires sized numbered c.index_in.ensures)

pub overflow_cast-result : goal.overflow_cast-result
overflow_cast-result c = let sized = c.stretch_size-size.ensures in
    let numbered = c.number_of.ensures in
    omega (arith, room _ _ _ _ _ _ c.requires sized numbered c.index_in.ensures)

pub returns : goal.returns
unfolding index_below
returns c = rw (c.stretch_size-size.ensures, c.number_of.ensures, c.index_in.ensures)
