use native.Mathlib.Omega.{arith}
use Rattle.line.specs.Text.{ascii}
use Rattle.rows.specs.Rows.{unread_text}
use Rattle.rows.proofs.put_unread.Goals as goal

pub put_single-requires : goal.put_single-requires
put_single-requires c = (c.requires, omega arith)

pub returns : goal.returns
unfolding unread_text ascii
returns c = c.put_single.ensures
