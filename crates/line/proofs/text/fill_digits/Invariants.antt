use lib.ListN.{length}
use Rattle.line.proofs.TextLaws.{Spelt}
use Rattle.line.proofs.text.fill_digits.Given as goal

abbrev pub invariant-loop-place : goal.invariant-loop-place
invariant-loop-place l = Spelt l.base (length l.initial.part) l.n l.part l.rest l.place
