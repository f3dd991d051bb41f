-- Whether all numbers below a bound pass a test, whether any does, how many do, and the lowest that does.
use Rattle.std.specs.Prelude.{ℕ, zero, suc, ◌+◌, Bool, true, false, cond, ◌&&◌, ◌||◌}
use Rattle.runs.specs.Bits.{bit}

-- every number below n passes the test p
unfoldable pub all : (p : ℕ → Bool) (n : ℕ) → Bool
all p zero = true
all p (suc n) = p n && all p n

-- some number below n passes the test p
unfoldable pub any : (p : ℕ → Bool) (n : ℕ) → Bool
any p zero = false
any p (suc n) = p n || any p n

-- how many numbers below n pass the test p
unfoldable pub count : (p : ℕ → Bool) (n : ℕ) → ℕ
count p zero = 0
count p (suc n) = count p n + bit (p n)

-- the lowest number below n that passes the test p, or d where none does
unfoldable pub lowest : (p : ℕ → Bool) (n d : ℕ) → ℕ
lowest p zero d = d
lowest p (suc n) d = lowest p n (cond (p n) n d)
