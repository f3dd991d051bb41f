use Rattle.std.proofs.Common.{arith, refl, sym, ◌∙◌}
use Rattle.report.proofs.TallyLaws.{runs-then}
use Rattle.reporting.proofs.ReplayLaws.{handed-first, reached, handed-next, last_block, goes_on_lem}
use Rattle.reporting.proofs.replays.replay_file.Goals as goal

pub loop-last-init : goal.loop-last-init
loop-last-init g c = (
  handed-first c.args.replay.now,
  c.requires.0,
  record { buffer = refl; words = refl; links = refl; presents = refl; totals = refl },
  c.requires.1,
  omega arith,
)

pub returns-then-not-goes_on : goal.returns-then-not-goes_on
returns-then-not-goes_on g c = record {
  runs = runs-then c.args.replay.now c.loop-last.replay c.count_block-last.new.replay c.loop-last.invariant.2
      c.count_block-last.ensures.runs;
  replayed = last_block _ _ c.count_block-last.result _ c.count_block-last.new.replay _
      (reached _ _ c.loop-last.replay _ c.loop-last.invariant.0 _ c.count_block-last.new.replay _ c.count_block-last.ensures.counted)
      _ refl (omega arith) (sym c.goes_on.ensures ∙ c.if-not-goes_on.true);
}

pub loop-last-preserved : goal.loop-last-preserved
loop-last-preserved g c =
    let more = sym c.goes_on.ensures ∙ c.if-not-goes_on.false in
    let on = goes_on_lem c.count_block-last.result _ more in
    let here = c.count_block-last.ensures.counted in (
      handed-next _ _ c.count_block-last.result _ c.count_block-last.new.replay _
          (reached _ _ c.loop-last.replay _ c.loop-last.invariant.0 _ c.count_block-last.new.replay _ here) more,
      record { runs = here.counted.runs; in-limit = here.counted.in-limit on.0 },
      runs-then c.args.replay.now c.loop-last.replay c.count_block-last.new.replay c.loop-last.invariant.2 c.count_block-last.ensures.runs,
      here.room,
      on.2,
    )
