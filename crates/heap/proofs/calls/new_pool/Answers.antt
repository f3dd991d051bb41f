use mathlib.Core.Path.{ap, ◌∙◌}
use Rattle.heap.specs.Pools.{done_pool, refused_pool}
use Rattle.heap.proofs.CallLaws.{new-refused, new-done}
use Rattle.heap.proofs.calls.new_pool.Goals as goal

pub returns-then-not-frames_fit : goal.returns-then-not-frames_fit
returns-then-not-frames_fit c = new-refused _ _ _ c.frames_fit.ensures _ c.if-not-frames_fit.true-raw
    (c.refused_pool.ensures ∙ ap (refused_pool 1) c.clear_pool.ensures)

pub returns : goal.returns
returns c = new-done _ _ _ c.frames_fit.ensures _ c.if-not-frames_fit.false-raw (ap (done_pool 0) c.clear_pool-pool.ensures)
