-- A run of one value, over any element. Assumes nothing.
use Prim.Native.Nat.{ℕ, zero, suc}
use mathlib.Core.Path.{◌≡◌, refl}
use lib.ListN.{get_or, replicate}

module _ {A : Type 0} where
  -- what stands at an index of a run of one value, past its end too
  pub filled_at : (e : A) (n i : ℕ) → get_or (replicate n e) i e ≡ e
  filled_at e zero i = refl
  filled_at e (suc n) zero = refl
  filled_at e (suc n) (suc i) = filled_at e n i
