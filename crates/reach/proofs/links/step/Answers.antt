use native.Mathlib.Omega.{arith}
use Rattle.reach.proofs.LinkLaws.{step-up, step_down, up_fits, down_fits}
use Rattle.reach.proofs.links.step.Goals as goal

pub overflow_add-result : goal.overflow_add-result
overflow_add-result c = let h = up_fits _ _ c.if-up.true c.requires in omega arith

pub overflow_sub-result : goal.overflow_sub-result
overflow_sub-result c = down_fits _ _ c.if-up.false c.requires

pub returns-then-up : goal.returns-then-up
returns-then-up c = step-up _ _ c.if-up.true

pub returns-else-up : goal.returns-else-up
returns-else-up c = step_down _ _ c.if-up.false
