use mathlib.Core.Path.{refl}
use Rattle.page_table.specs.Stretches.{length_fits, tables_fit}
use Rattle.page_table.proofs.tables_fit.Goals as goal

pub returns : goal.returns
unfolding tables_fit length_fits
returns c = refl
