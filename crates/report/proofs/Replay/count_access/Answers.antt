use mathlib.Core.Path.{refl}
use native.Mathlib.Omega.{arith}
use Rattle.report.proofs.StepLaws.{access-counts}
use Rattle.report.proofs.Replay.count_access.Goals as goal

pub returns-clause-counted : goal.returns-clause-counted
returns-clause-counted c = access-counts _ _ _ _ _ _ c.step-reply.ensures.stepped c.requires refl refl refl (omega arith) c.book_access.ensures
