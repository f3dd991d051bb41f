-- How a file ended, and the lines of an ending. Assumes nothing.
use Prim.Native.Nat.{ℕ}
use mathlib.Core.Path.{◌≡◌, sym, subst}
use mathlib.Core.List.{List}
use lib.IntN.{ℤ}
use Rattle.line.specs.Text.{TextPut}
use Rattle.reporting.specs.Endings.{ending_text}
use Rattle.reporting.specs.declared.Ending.{Ending}

-- the lines of an ending
module _ (out : List ℕ) (number : ℕ) (totals : List ℤ) (ending : Ending) (n : ℕ) (after : List ℕ) where
  pub lines_of : (e : Ending) → ending ≡ e → TextPut out 0 (ending_text number totals e) n after
      → TextPut out 0 (ending_text number totals ending) n after
  lines_of e q p = subst (λ (x : Ending). TextPut out 0 (ending_text number totals x) n after) (sym q) p
