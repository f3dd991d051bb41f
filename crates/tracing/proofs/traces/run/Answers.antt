use Rattle.trace.proofs.StartLaws.{start-machine}
use Rattle.tracing.proofs.TraceLaws.{from_start}
use Rattle.tracing.proofs.StreamLaws.{moves-from-start}
use Rattle.tracing.proofs.traces.run.Goals as goal

pub returns-clause-trace : goal.returns-clause-trace
returns-clause-trace g c =
    from_start _ _ _ _ _ _ _ (start-machine _ _ _ _ c.requires.0 c.start-started.ensures c.requires.1) c.run_blocks.ensures.trace

pub returns-clause-moves : goal.returns-clause-moves
returns-clause-moves g c =
    moves-from-start _ _ _ _ _ _ _ _ _ _ (start-machine _ _ _ _ c.requires.0 c.start-started.ensures c.requires.1)
    c.run_blocks.ensures.moves
