use Rattle.report.proofs.TallyLaws.{Replayed}
use Rattle.report.proofs.Replay.run.Given as goal

abbrev pub invariant-loop-i : goal.invariant-loop-i
invariant-loop-i l = Replayed l.initial.self l.input l.count l.self l.i
