-- The stretch of the words is the part of the slice.
use native.Mathlib.Nat.{add-sub_cancel_left}
use Rattle.page_table.specs.Stretches.{stretch}
use Rattle.page_table.proofs.RefSliceU32TableRun.stretch.Goals as goal

pub returns : goal.returns
unfolding stretch
returns c = simp add-sub_cancel_left
