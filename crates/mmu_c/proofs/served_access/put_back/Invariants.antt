use Rattle.mmu_c.proofs.PutBack.{Putting}
use Rattle.mmu_c.proofs.served_access.put_back.Given as goal

abbrev pub invariant-loop-set : goal.invariant-loop-set
invariant-loop-set l = Putting l.slots l.initial.buffer l.buffer l.vpn l.set
