use Rattle.std.proofs.Common.{inl, inr}
use Rattle.report.proofs.StepLaws.{setting-counts, malformed-counts}
use Rattle.report.proofs.Replay.count_step.Goals as goal

pub returns-in-Set-clause-counted : goal.returns-in-Set-clause-counted
returns-in-Set-clause-counted c = elim c.in-Set.is [
  | inl w ↦ setting-counts c.args.self.now _ _ c.step.new.self c.step.ensures.stepped c.requires w.0 w.1 w.2
  | inr e ↦ malformed-counts c.args.self.now _ _ c.step.new.self c.step.ensures.stepped c.requires e
]
