use Rattle.access.proofs.ExceptionLaws.{we-exc-is}
use Rattle.access.proofs.we_exc.Goals as goal

pub returns : goal.returns
returns c = we-exc-is _
