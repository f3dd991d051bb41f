use Prim.Native.Nat.{ℕ, ◌%◌}
use mathlib.Core.Path.{ap}
use Rattle.heap.proofs.BitLaws.{shift_one, shift-pos, all-low}
use Rattle.heap.proofs.bits.low_bits.Goals as goal

pub nonzero_rem-result : goal.nonzero_rem-result
nonzero_rem-result c = shift-pos c.args.width c.if-width-lt64.true

pub returns-then-width-lt64 : goal.returns-then-width-lt64
returns-then-width-lt64 c = ap (λ (m : ℕ). c.args.n % m) (shift_one c.args.width c.if-width-lt64.true)

pub returns : goal.returns
returns c = all-low c.args.n c.args.width c.ranges.n.fits c.if-width-lt64.false
