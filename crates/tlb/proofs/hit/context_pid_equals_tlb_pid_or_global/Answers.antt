use mathlib.Core.Bool.{◌||◌}
use Rattle.tlb.specs.Hit.{id_matches_or_global}
use Rattle.tlb.proofs.HitLaws.{compared}
use Rattle.tlb.proofs.hit.context_pid_equals_tlb_pid_or_global.Goals as goal

pub returns : goal.returns
unfolding id_matches_or_global
returns c = λ i. compared c.args.context_pid c.page_id_of-tlb_pid.ensures i || c.is_global-global.ensures i
