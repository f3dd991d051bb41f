use mathlib.Core.Path.{refl}
use Rattle.mmu_c.specs.Runs.{length_taken, tables_taken}
use Rattle.mmu_c.proofs.tables_taken.Goals as goal

pub returns : goal.returns
unfolding tables_taken length_taken
returns c = refl
