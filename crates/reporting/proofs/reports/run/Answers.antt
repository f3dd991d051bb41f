use Rattle.std.proofs.Common.{arith, ◌∙◌}
use Rattle.reporting.proofs.ReportLaws.{first-file, more-files, reported, goes_on_lem, was-written}
use Rattle.reporting.proofs.StreamLaws.{puts-nothing, puts-more}
use Rattle.reporting.proofs.reports.run.Goals as goal

pub loop-written-init : goal.loop-written-init
loop-written-init g c = (first-file _ _ _ _ _ c.unopened-file.ensures, omega arith, c.requires, λ w. puts-nothing _)

pub write_lines-lines-requires : goal.write_lines-lines-requires
write_lines-lines-requires g c = (c.loop-written.invariant.1, c.loop-written.invariant.2)

pub overflow_add-next : goal.overflow_add-next
overflow_add-next g c =
    let k = goes_on_lem c.loop-written.written c.loop-written.next _ c.loop-written-test.true in omega (arith, k)

pub loop-written-smaller : goal.loop-written-smaller
loop-written-smaller g c =
    let k = goes_on_lem c.loop-written.written c.loop-written.next _ c.loop-written-test.true in omega (arith, k)

pub loop-written-preserved : goal.loop-written-preserved
loop-written-preserved g c =
    let now = c.loop-written.invariant in
    let k = goes_on_lem c.loop-written.written c.loop-written.next _ c.loop-written-test.true in
    let fits = now.2 in (
      more-files _ _ _ _ _ _ _ now.1 k c.write_lines-lines.ensures.lines,
      omega (arith, now.1),
      (
        c.write_lines-lines.auto.words ∙ fits.0,
        c.write_lines-lines.auto.input ∙ fits.1,
        c.write_lines-lines.auto.out ∙ fits.2,
      ),
      λ w. puts-more _ _ _ _ _ _ _ _ now.1 c.write_lines-lines.ensures.lines (c.write_lines-lines.ensures.put w)
          (now.3 (was-written c.loop-written.written c.loop-written.next _ c.loop-written-test.true)),
    )

pub returns-clause-report : goal.returns-clause-report
returns-clause-report g c = reported _ _ _ _ _ _ _ c.loop-written.invariant.0 c.loop-written-test.false

pub returns-clause-puts : goal.returns-clause-puts
returns-clause-puts g c = c.loop-written.invariant.3
