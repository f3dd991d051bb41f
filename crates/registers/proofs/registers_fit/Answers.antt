use mathlib.Core.Path.{refl}
use native.Mathlib.Omega.{arith}
use borrow.Author.Tests.{lt-ltb}
use Rattle.runs.specs.Counts.{all}
use Rattle.registers.specs.Fields.{to_words, field, widths, fits_at, registers_fit}
use Rattle.registers.proofs.registers_fit.Goals as goal

pub returns : goal.returns
unfolding registers_fit all fits_at field to_words widths
returns c = rw (
  lt-ltb c.args.r.kbase_lo 4294967296
      (omega arith),
  lt-ltb c.args.r.kbase_hi 4294967296
      (omega arith),
) refl
