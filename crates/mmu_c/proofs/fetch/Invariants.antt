use Rattle.mmu_c.proofs.Locations.{Fetching}
use Rattle.mmu_c.proofs.fetch.Given as goal

abbrev pub invariant-loop-set : goal.invariant-loop-set
invariant-loop-set l = Fetching l.buffer l.slots l.vpn l.set
