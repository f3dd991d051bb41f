use Rattle.entry.specs.Address.{vpn15_of}
use Rattle.tlb.specs.Hit.{vpn15_matches}
use Rattle.tlb.proofs.HitLaws.{compared}
use Rattle.tlb.proofs.hit.cpu_vpn_equals_tlb_vpn.Goals as goal

pub returns : goal.returns
unfolding vpn15_matches vpn15_of
returns c = compared (vpn15_of c.args.vpn) c.vpn15_of-tlb_vpn.ensures
