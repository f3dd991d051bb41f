use Rattle.store.proofs.StoreLaws.{one_written}
use Rattle.store.proofs.rewrite.Goals as goal

pub returns : goal.returns
returns c = one_written _ _ _ _ _ _ c.sweep.ensures
