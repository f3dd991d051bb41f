use Rattle.mmu.proofs.ServedLaws.{served-test}
use Rattle.mmu.proofs.may_be_served.Goals as goal

pub returns : goal.returns
returns c = served-test _
