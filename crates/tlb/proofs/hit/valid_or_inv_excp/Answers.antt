use mathlib.Core.Path.{ap}
use mathlib.Core.Bool.{Bool, ◌||◌}
use Rattle.tlb.specs.Hit.{valid_or_inv_exc}
use Rattle.tlb.proofs.hit.valid_or_inv_excp.Goals as goal

pub returns : goal.returns
unfolding valid_or_inv_exc
returns c = ap (λ (valid : Bool). valid || c.args.inv_excp) c.is_valid-valid.ensures
