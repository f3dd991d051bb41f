use Rattle.std.proofs.Common.{◌≡◌, ◌-◌, ◌≤◌, true}
use Rattle.reporting.specs.Reports.{ReportFits}
use Rattle.reporting.specs.Streams.{ReportPuts}
use Rattle.reporting.proofs.ReportLaws.{Going}
use Rattle.reporting.proofs.reports.run.Given as goal

abbrev pub invariant-loop-written : goal.invariant-loop-written
invariant-loop-written g l =
    Going l.count l.next l.file l.written l.words l.input l.out × (1 ≤ l.next) × ReportFits l.words l.input l.out
    × (l.written ≡ true → ReportPuts (l.next - 1) (g.W.Write.contents l.fn.writer) (g.W.Write.contents l.writer))

abbrev pub decreases-loop-written : goal.decreases-loop-written
decreases-loop-written g l = l.count - l.next
