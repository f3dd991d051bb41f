use mathlib.Core.Path.{◌∙◌}
use Rattle.registers.specs.Fields.{put}
use Rattle.registers.proofs.put.Goals as goal

pub returns : goal.returns
unfolding put
returns c = c.from.ensures ∙ rw c.from-words.ensures
