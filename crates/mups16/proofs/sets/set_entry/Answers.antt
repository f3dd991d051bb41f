use Rattle.mups16.proofs.SetLaws.{set-refused, set-done}
use Rattle.mups16.proofs.sets.set_entry.Goals as goal

pub returns : goal.returns
returns c = let run = c.in-Some.ensures.cases in set-done _ _ _ run.long _ run.same _ c.place_of.ensures

pub returns-in_default : goal.returns-in_default
returns-in_default c = set-refused _ _ _ c.in_default.ensures.cases
