use Rattle.heap.proofs.BitLaws.{NoneFree}
use Rattle.heap.proofs.bits.lowest_free.Given as goal

abbrev pub invariant-loop-k : goal.invariant-loop-k
invariant-loop-k l = NoneFree l.bits l.size l.k
