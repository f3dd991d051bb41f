use mathlib.Core.Path.{refl}
use Rattle.mmu_c.specs.Runs.{buffer_taken}
use Rattle.mmu_c.proofs.buffer_taken.Goals as goal

pub returns : goal.returns
unfolding buffer_taken
returns c = refl
