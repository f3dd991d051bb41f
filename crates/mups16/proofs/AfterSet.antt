-- The entries after a set over a run of 8,192: the one that was set, and all others. Assumes nothing.
use Prim.Native.Nat.{ℕ, ◌<◌}
use mathlib.Core.Path.{◌≡◌, ap, ◌∙◌}
use mathlib.Core.Logic.{◌≢◌}
use mathlib.Core.List.{List}
use native.Mathlib.Omega.{arith}
use lib.ListN.{length, get_or, set, length-set}
use lib.Seq.{get_or-set_same, get_or-set_other}
use Rattle.std.specs.Prelude.{Result}
use Rattle.runs.specs.Bits.{bits}
use Rattle.mups16.specs.Set.{SetEntryGives}
use Rattle.mups16.specs.InBits.{AcceptedInBits}
use Rattle.mups16.specs.declared.refusal.Refusal.{Refusal}
use Rattle.mups16.proofs.InBits.{accepted-in-bits}

module _ (before after : List ℕ) (set_at e : ℕ) (answer : Result (Unit {0}) Refusal) (gave : SetEntryGives before set_at e after answer)
    (long : length before ≡ 8192) where
  after_is : after ≡ set before (bits 12 0 set_at) (bits 18 0 e)
  unfolding AcceptedInBits
  after_is = ((accepted-in-bits before long).set_is set_at e after answer gave).1

  pub after-long : length after ≡ 8192
  after-long = ap length after_is ∙ length-set before (bits 12 0 set_at) (bits 18 0 e) ∙ long

  place_inside : bits 12 0 set_at < length before
  place_inside = omega (arith, long)

  pub set_here : (place : ℕ) → place ≡ bits 12 0 set_at → get_or after place 0 ≡ bits 18 0 e
  set_here place q =
      ap (λ (l : List ℕ). get_or l place 0) after_is
      ∙ ap (λ (k : ℕ). get_or (set before (bits 12 0 set_at) (bits 18 0 e)) k 0) q
      ∙ get_or-set_same before (bits 12 0 set_at) (bits 18 0 e) 0 place_inside

  pub set-elsewhere : (place : ℕ) → place ≢ bits 12 0 set_at → get_or after place 0 ≡ get_or before place 0
  set-elsewhere place d =
      ap (λ (l : List ℕ). get_or l place 0) after_is ∙ get_or-set_other before (bits 12 0 set_at) place (bits 18 0 e) 0 d
