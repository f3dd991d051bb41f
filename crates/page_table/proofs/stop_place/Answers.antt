use native.Mathlib.Omega.{arith}
use Rattle.runs.proofs.Bits.{bit_byte, byte_le}
use Rattle.page_table.specs.Faults.{stop_place}
use Rattle.page_table.proofs.stop_place.Goals as goal

pub overflow_mul-result-2 : goal.overflow_mul-result-2
overflow_mul-result-2 c = omega (arith, byte_le c.args.stop.global)

pub overflow_add-result : goal.overflow_add-result
overflow_add-result c = omega (arith, byte_le c.args.stop.global)

pub returns : goal.returns
unfolding stop_place
returns c = omega (arith, bit_byte c.args.stop.global)
