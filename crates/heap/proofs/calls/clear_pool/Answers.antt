use mathlib.Core.Path.{refl}
use Rattle.heap.specs.NewPool.{clear_pool}
use Rattle.heap.proofs.calls.clear_pool.Goals as goal

pub returns : goal.returns
unfolding clear_pool
returns c = refl
