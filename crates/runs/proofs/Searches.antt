-- A loop that looks for a number below n which passes a test, in the code's words. Assumes nothing.
use Prim.Native.Nat.{ℕ, ◌+◌, ◌≤◌, ◌<◌}
use mathlib.Core.Path.{◌≡◌, refl, sym, ap, ◌∙◌}
use mathlib.Core.Bool.{Bool, true, false}
use native.Mathlib.Numerals.{add-one}
use native.Mathlib.Omega.{arith}
use Rattle.runs.specs.Counts.{any}
use Rattle.runs.proofs.Counts.{any-from, any-suc}

-- none of the first k passes
pub record Searched (p : ℕ → Bool) (n k : ℕ) : Type 0 where
  pub some : k ≤ n
  pub none : any p k ≡ false

module _ (p : ℕ → Bool) (n : ℕ) where
  pub search-none : Searched p n 0
  unfolding any
  search-none = record { some = omega arith; none = refl }

  -- the test of number k, and its answer
  module _ (k : ℕ) (here : Bool) (test-is : here ≡ p k) (l : k < n) where
    pub search-found : here ≡ true → true ≡ any p n
    search-found h = sym (any-from p n k l (sym test-is ∙ h))

    pub search-on : Searched p n k → here ≡ false → Searched p n (k + 1)
    search-on s h = record {
      some = omega arith;
      none = ap (any p) (add-one k) ∙ any-suc p k s.none (sym test-is ∙ h);
    }

  pub search-all : (k : ℕ) → Searched p n k → n ≤ k → false ≡ any p n
  search-all k s l =
      let e : k ≡ n = omega (arith, s.some) in
      sym (ap (any p) (sym e) ∙ s.none)
