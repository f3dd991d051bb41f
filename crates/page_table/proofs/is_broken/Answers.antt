-- `page_table::is_broken` meets its contract: `broken-last` turns the index of the stretch's last word into its end. Assumes nothing.
use native.Mathlib.Omega.{arith}
use Rattle.page_table.proofs.Stretches.{stretch-room, broken-last}
use Rattle.page_table.proofs.is_broken.Goals as goal

pub overflow_mul-last : goal.overflow_mul-last
overflow_mul-last c = omega (arith, stretch-room _ _ _ c.requires.1 c.number_of-number.ensures)

pub overflow_add-last : goal.overflow_add-last
overflow_add-last c = omega (arith, stretch-room _ _ _ c.requires.1 c.number_of-number.ensures)

pub returns : goal.returns
returns c = broken-last _ _ _ _ c.requires.0 c.number_of-number.ensures
