use Rattle.std.proofs.Common.{length}
use Rattle.reach.proofs.PresentLaws.{Counted}
use Rattle.reach.proofs.leaf_count.Given as goal

abbrev pub invariant-loop-link : goal.invariant-loop-link
invariant-loop-link l = Counted l.words l.leaves (length l.yielded)
