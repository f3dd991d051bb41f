use native.Mathlib.Omega.{arith}
use Rattle.page_table.specs.Faults.{fault_kind}
use Rattle.page_table.proofs.fault_kind.Goals as goal

pub returns : goal.returns
unfolding fault_kind
returns c = omega arith
