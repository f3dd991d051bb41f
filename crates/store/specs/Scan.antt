-- Puts by the indexes of a stretch of the run, in rising order.
use Rattle.std.specs.Prelude.{ℕ, zero, suc, ◌+◌, Bool, cond, List, [], ◌∷◌, ◌++◌}
use Rattle.store.specs.Rewrite.{Put}

abbrev pub put_at : (index value : ℕ) → Put
put_at index value = record { index = index; value = value }

-- a put for each of the n indexes from a on that passes the test p, lowest first, with the value v of its index
unfoldable pub puts_from : (p : ℕ → Bool) (v : ℕ → ℕ) (a n : ℕ) → List Put
puts_from p v a zero = []
puts_from p v a (suc n) = puts_from p v a n ++ cond (p (a + n)) (put_at (a + n) (v (a + n)) ∷ []) []
