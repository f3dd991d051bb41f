use Rattle.std.proofs.Common.{refl}
use Rattle.reach.specs.Reach.{leads_to}
use Rattle.reach.proofs.leads_to.Goals as goal

pub returns : goal.returns
unfolding leads_to
returns c = rw (c.leads_on.ensures, c.number_of.ensures) refl
