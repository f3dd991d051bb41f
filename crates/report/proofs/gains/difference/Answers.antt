use native.Mathlib.Omega.{arith}
use Rattle.report.proofs.TotalLaws.{minus-fits, minus_is}
use Rattle.report.proofs.gains.difference.Goals as goal

pub overflow_sub-result : goal.overflow_sub-result
overflow_sub-result c = minus-fits c.args.a c.args.b (omega arith) (omega arith)

pub returns : goal.returns
returns c = minus_is c.args.a c.args.b (omega arith) (omega arith)
