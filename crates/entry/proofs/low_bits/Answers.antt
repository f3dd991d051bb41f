use Rattle.entry.proofs.Fields.{flag-bytes, low_sum}
use native.Mathlib.Omega.{arith}
use Rattle.entry.proofs.low_bits.Goals as goal

pub overflow_mul-result : goal.overflow_mul-result
overflow_mul-result c = omega (arith, flag-bytes c.args.f)

pub overflow_mul-result-2 : goal.overflow_mul-result-2
overflow_mul-result-2 c = omega (arith, flag-bytes c.args.f)

pub overflow_add-result : goal.overflow_add-result
overflow_add-result c = omega (arith, flag-bytes c.args.f)

pub overflow_mul-result-3 : goal.overflow_mul-result-3
overflow_mul-result-3 c = omega (arith, flag-bytes c.args.f)

pub overflow_add-result-2 : goal.overflow_add-result-2
overflow_add-result-2 c = omega (arith, flag-bytes c.args.f)

pub overflow_mul-result-4 : goal.overflow_mul-result-4
overflow_mul-result-4 c = omega (arith, flag-bytes c.args.f)

pub overflow_add-result-3 : goal.overflow_add-result-3
overflow_add-result-3 c = omega (arith, flag-bytes c.args.f)

pub overflow_add-result-4 : goal.overflow_add-result-4
overflow_add-result-4 c = omega (arith, flag-bytes c.args.f)

pub returns : goal.returns
returns c = low_sum c.args.f c.requires
