-- Fields of a number by their bit numbers, a truth value as a bit, and one bit changed.
use Rattle.std.specs.Prelude.{ℕ, ◌+◌, ◌-◌, ◌*◌, ◌/◌, ◌%◌, ◌^◌, Bool, true, false, eqb}

-- bits high to low of n, both included, as a number
abbrev pub bits : (high low n : ℕ) → ℕ
bits high low n = n / 2 ^ low % 2 ^ (high - low + 1)

-- bit k of n is set
abbrev pub flag : (k n : ℕ) → Bool
flag k n = eqb (n / 2 ^ k % 2) 1

-- a truth value as a bit
abbrev pub bit : Bool → ℕ
bit true = 1
bit false = 0

-- the number n with b as its bit k: the old bit is taken out, and b put in its place
unfoldable pub with_flag : (b : Bool) (k n : ℕ) → ℕ
with_flag b k n = n - bit (flag k n) * 2 ^ k + bit b * 2 ^ k
