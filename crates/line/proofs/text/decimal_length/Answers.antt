use native.Mathlib.Omega.{arith}
use Rattle.line.proofs.TextLaws.{counted-one, counted-more, counted-all}
use Rattle.line.proofs.text.decimal_length.Goals as goal

pub loop-rest-init : goal.loop-rest-init
loop-rest-init c = counted-one _ (omega arith)

pub overflow_add-count : goal.overflow_add-count
overflow_add-count c = omega (arith, c.loop-rest.invariant.most)

pub loop-rest-preserved : goal.loop-rest-preserved
loop-rest-preserved c = counted-more _ _ _ c.loop-rest.invariant (omega arith)

pub returns : goal.returns
returns c = counted-all _ _ _ c.loop-rest.invariant (omega arith)
