use mathlib.Core.Path.{refl}
use Rattle.line.proofs.TextLaws.{copied-put}
use Rattle.line.proofs.text.Text.put.Goals as goal

pub returns-clause-grows : goal.returns-clause-grows
returns-clause-grows c = copied-put _ _ _ _ _ refl c.copy_from_slice.ensures.after
