use mathlib.Core.Path.{ap, ◌∙◌}
use Rattle.entry.specs.Entry.{join, pack}
use Rattle.entry.proofs.pack.Goals as goal

pub returns : goal.returns
unfolding pack
returns c = c.join.ensures ∙ ap (join _ _) c.low_bits-low.ensures.0
