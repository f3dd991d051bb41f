use mathlib.Core.Path.{refl}
use native.Mathlib.Omega.{arith}
use Rattle.line.specs.Text.{hex}
use Rattle.line.proofs.TextLaws.{spelt-put}
use Rattle.line.proofs.text.Text.put_hex.Goals as goal

pub returns-clause-grows : goal.returns-clause-grows
unfolding hex
returns-clause-grows c = spelt-put _ _ _ _ _ _ _ refl (omega arith) c.fill_digits.ensures
