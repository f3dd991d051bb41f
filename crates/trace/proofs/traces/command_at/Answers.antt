use mathlib.Core.Path.{ap, ◌∙◌}
use native.Mathlib.Omega.{arith}
use Rattle.trace.specs.Commands.{command_of}
use Rattle.trace.proofs.TraceLaws.{cut_short, whole}
use Rattle.trace.proofs.traces.command_at.Goals as goal

pub returns-then-input-i : goal.returns-then-input-i
returns-then-input-i c = cut_short _ _ (omega arith)

pub returns : goal.returns
returns c = c.command_of.ensures ∙ ap command_of c.read-bits.ensures.number ∙ whole _ _ (omega arith)
