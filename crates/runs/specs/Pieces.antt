-- Runs made from an index, and runs made of equal pieces.
use Rattle.std.specs.Prelude.{ℕ, zero, suc, List, [], ◌∷◌, ◌++◌}

-- the n numbers f k, f (k + 1), ..
abbrev pub tabulate : (f : ℕ → ℕ) (k n : ℕ) → List ℕ
tabulate f k zero = []
tabulate f k (suc n) = f k ∷ tabulate f (suc k) n

-- the pieces f x of the elements x, one after the other
abbrev pub flat : (f : ℕ → List ℕ) (xs : List ℕ) → List ℕ
flat f [] = []
flat f (x ∷ xs) = f x ++ flat f xs
