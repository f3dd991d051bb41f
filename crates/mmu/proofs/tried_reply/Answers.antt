use Rattle.mmu.proofs.ServedLaws.{tried-address, tried-none}
use Rattle.mmu.proofs.tried_reply.Goals as goal

pub returns-in-Some : goal.returns-in-Some
returns-in-Some c = tried-address _ _ _ _ c.in-Some.is c.answered.ensures

pub returns-in-None : goal.returns-in-None
returns-in-None c = tried-none _ _ _ c.in-None.is c.answered-in-None.ensures
