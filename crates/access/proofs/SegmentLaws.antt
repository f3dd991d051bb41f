-- What the code of the linear segments needs of its definitions. Assumes nothing.
use Prim.Native.Nat.{ℕ, ◌+◌, ◌-◌, ◌*◌, ◌/◌, ◌%◌, ◌^◌, ◌≤◌, ◌<◌}
use mathlib.Core.Path.{◌≡◌, sym}
use native.Mathlib.Nat.{mod-lt}
use lib.Dec.{lit<}
use borrow.Author.Tests.{lt-ltb, le-ltb}
use Rattle.runs.proofs.Bits.{bits-wide, bits-low}
use Rattle.access.specs.Segments.{segment_of, nibble, segment_base, linear_address}

nibble-is : (n word : ℕ) → nibble n word ≡ word / 2 ^ (4 * n) % 16
unfolding nibble
nibble-is n word = bits-wide (4 * n) 3 word

pub base-low : (lo hi segment : ℕ) → segment < 8
    → (lo / 2 ^ (4 * segment) % 16 ≡ segment_base lo hi segment) × (lo / 2 ^ (4 * segment) % 16 < 16)
unfolding segment_base
base-low lo hi segment l = (sym (rw (lt-ltb segment 8 l) (nibble-is segment lo)), mod-lt (lo / 2 ^ (4 * segment)) (lit< tt))

pub base-high : (lo hi segment : ℕ) → 8 ≤ segment
    → (hi / 2 ^ (4 * (segment - 8)) % 16 ≡ segment_base lo hi segment) × (hi / 2 ^ (4 * (segment - 8)) % 16 < 16)
unfolding segment_base
base-high lo hi segment l =
    (sym (rw (le-ltb segment 8 l) (nibble-is (segment - 8) hi)), mod-lt (hi / 2 ^ (4 * (segment - 8))) (lit< tt))

pub linear-sum : (lo hi address base : ℕ) → base ≡ segment_base lo hi (segment_of address)
    → base * 268435456 + address % 268435456 ≡ linear_address lo hi address
unfolding linear_address
linear-sum lo hi address base h = rw (h, bits-low 27 address)
