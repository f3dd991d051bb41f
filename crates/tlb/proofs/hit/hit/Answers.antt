use Rattle.tlb.proofs.HitLaws.{joined}
use Rattle.tlb.proofs.hit.hit.Goals as goal

pub returns : goal.returns
returns c = joined _ _ _ _ _ _ _ c.valid_or_inv_excp.ensures c.cpu_vpn_equals_tlb_vpn.ensures
    c.context_pid_equals_tlb_pid_or_global.ensures
