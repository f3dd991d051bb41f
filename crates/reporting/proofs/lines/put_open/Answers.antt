use Rattle.std.proofs.Common.{refl, sym}
use Rattle.reporting.proofs.ReplayLaws.{ready-first, from_start}
use Rattle.reporting.proofs.ReportLaws.{file-gives}
use Rattle.reporting.proofs.lines.put_open.Goals as goal

pub replay_file-replayed-requires : goal.replay_file-replayed-requires
replay_file-replayed-requires g c = (ready-first _ _ c.start-registers.ensures, c.requires.1)

pub put_ending-length-requires : goal.put_ending-length-requires
put_ending-length-requires g c = (c.requires.2, c.replay_file-replayed.ensures.replayed.reached.block.counted.runs.columns)

pub returns-clause-lines : goal.returns-clause-lines
returns-clause-lines g c =
    file-gives _ _ _ c.replay_file-replayed.new.replay _ _ _ _ _ _ refl
    (c.words-2-1.given.1.1 (sym c.replay_file-replayed.ensures.runs.words))
    (from_start _ _ _ c.start-registers.ensures.machine-is c.start-registers.ensures.totals-are _ c.replay_file-replayed.new.replay _
    c.replay_file-replayed.ensures.replayed)
    c.ending_of-ending.ensures c.put_ending-length.ensures.text
