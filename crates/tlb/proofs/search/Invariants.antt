use Rattle.slots.specs.Buffer.Buffer.{Wide}
use Rattle.tlb.specs.Search.{set_hits}
use Rattle.tlb.proofs.Found.{Found}
use Rattle.tlb.proofs.search.Given as goal

abbrev pub invariant-loop-set : goal.invariant-loop-set
invariant-loop-set l = Found (set_hits (Wide l.buffer) l.inv_exc l.context l.vpn) l.set l.count l.lowest
