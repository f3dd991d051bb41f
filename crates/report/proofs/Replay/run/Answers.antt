use mathlib.Core.Path.{refl}
use mathlib.Core.Bool.{true, false}
use native.Mathlib.Omega.{arith}
use Rattle.std.proofs.lemmas.Result.{err_from_is_err_and}
use Rattle.trace.specs.Commands.{record_count}
use Rattle.report.proofs.TallyLaws.{runs-then, replayed-none, replayed-more, replayed-stop, replayed-all}
use Rattle.report.proofs.Replay.run.Goals as goal

pub loop-i-init : goal.loop-i-init
loop-i-init c = replayed-none _ _ _ c.requires

pub loop-i-preserved : goal.loop-i-preserved
loop-i-preserved c = replayed-more c.args.self.now _ _ c.loop-i.self _ c.loop-i.invariant c.loop-i-test.true _ c.command_at.ensures
    true c.count_step.new.self c.in_ok-count_step.ensures.counted refl c.count_step.ensures.runs

pub returns-in_err-count_step : goal.returns-in_err-count_step
unfolding record_count
returns-in_err-count_step c = let p = err_from_is_err_and c.from_residual.result c.from_residual.ensures.1 in
    rw p.1 (record {
      runs = runs-then c.args.self.now c.loop-i.self c.count_step.new.self c.loop-i.invariant.runs c.count_step.ensures.runs;
      counted = replayed-stop c.args.self.now _ _ c.loop-i.self _ c.loop-i.invariant c.loop-i-test.true _ c.command_at.ensures
          false c.count_step.new.self c.in_err-count_step.ensures.counted refl (omega (arith, c.div_ceil-count.ensures));
    })

pub returns : goal.returns
unfolding record_count
returns c = record {
  runs = c.loop-i.invariant.runs;
  counted = replayed-all c.args.self.now _ _ c.loop-i.self _ c.loop-i.invariant (omega arith) (omega (arith, c.div_ceil-count.ensures));
}
