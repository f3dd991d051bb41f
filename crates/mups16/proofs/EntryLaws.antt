-- The run's length, and a page below its bound. Assumes nothing.
use Prim.Native.Nat.{ℕ, ◌<◌}
use mathlib.Core.Path.{◌≡◌}
use mathlib.Core.Logic.{◌≢◌}
use mathlib.Core.Bool.{true, false}
use mathlib.Core.List.{List}
use native.Mathlib.Omega.{arith}
use lib.ListN.{length}
use borrow.Author.Tests.{eq-eqb, ne_eqb}
use Rattle.mups16.specs.Entries.{entries_fit}
use Rattle.mups16.specs.Map.{virtual_page}

pub length-fits : (entries : List ℕ) → length entries ≡ 8192 → entries_fit entries ≡ true
unfolding entries_fit
length-fits entries h = eq-eqb (length entries) 8192 h

pub length-wrong : (entries : List ℕ) → length entries ≢ 8192 → entries_fit entries ≡ false
unfolding entries_fit
length-wrong entries d = ne_eqb (length entries) 8192 d

pub page-lt : (address : ℕ) → virtual_page address < 256
page-lt address = omega arith
