use Rattle.reach.proofs.LinkLaws.{Shifted}
use Rattle.reach.proofs.links.shift_directory.Given as goal

abbrev pub invariant-loop-word : goal.invariant-loop-word
invariant-loop-word l = Shifted l.up l.words l.directory l.initial.links l.links l.word-index
