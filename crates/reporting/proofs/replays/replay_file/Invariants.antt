use Rattle.std.proofs.Common.{◌≡◌, ◌-◌, ◌<◌, length}
use Rattle.report.specs.Replays.{Ready, SameRuns, machine_in}
use Rattle.reporting.specs.Blocks.{BYTES}
use Rattle.reporting.specs.Replays.{MOST}
use Rattle.reporting.proofs.ReplayLaws.{Handed}
use Rattle.reporting.proofs.replays.replay_file.Given as goal

abbrev pub invariant-loop-last : goal.invariant-loop-last
invariant-loop-last g l =
    Handed (machine_in l.fn.replay) l.fn.replay.totals.now l.replay l.blocks × Ready l.replay × SameRuns l.fn.replay l.replay
    × (length l.input ≡ BYTES) × (l.blocks < MOST)

abbrev pub decreases-loop-last : goal.decreases-loop-last
decreases-loop-last g l = MOST - l.blocks
