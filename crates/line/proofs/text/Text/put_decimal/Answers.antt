use mathlib.Core.Path.{refl}
use native.Mathlib.Omega.{arith}
use Rattle.line.specs.Text.{decimal}
use Rattle.line.proofs.TextLaws.{spelt-put}
use Rattle.line.proofs.text.Text.put_decimal.Goals as goal

pub returns-clause-grows : goal.returns-clause-grows
unfolding decimal
returns-clause-grows c = spelt-put _ _ _ _ _ _ _ (rw c.decimal_length.ensures.0 refl) (omega arith) c.fill_digits.ensures
