use Rattle.std.proofs.Common.{refl}
use Rattle.tracing.specs.Traces.{goes_on}
use Rattle.tracing.proofs.traces.goes_on.Goals as goal

pub returns : goal.returns
unfolding goes_on
returns c = refl
