-- What is set is read, and no other entry's reads change.
use Rattle.std.specs.Prelude.{ℕ, ◌+◌, ◌*◌, ◌≡◌, ◌≢◌, List, length, Result, Ok}
use Rattle.runs.specs.Bits.{bits}
use Rattle.mups16.specs.Read.{ReadLowGives, ReadHighGives}
use Rattle.mups16.specs.Set.{SetEntryGives}
use Rattle.mups16.specs.declared.State.{State}
use Rattle.mups16.specs.declared.refusal.Refusal.{Refusal}

-- reads at an entry address after e was set at another: where both have the same low 13 bits they give the bits of e, else what they gave
-- before
pub record ReadAfterSet (before after : List ℕ) (set_at e : ℕ) (s : State) (at : ℕ) : Type 0 where
  pub low-is : bits 12 0 at ≡ bits 12 0 set_at → (low : Result ℕ Refusal) → ReadLowGives after at low → low ≡ Ok (bits 15 0 e)
  pub high_is : bits 12 0 at ≡ bits 12 0 set_at → (high : Result ℕ Refusal) → ReadHighGives after s at high
      → high ≡ Ok (256 * bits 4 0 s.table_index + bits 18 16 e)
  pub other-low : bits 12 0 at ≢ bits 12 0 set_at → (old new : Result ℕ Refusal) → ReadLowGives before at old → ReadLowGives after at new → new ≡ old
  pub other-high : bits 12 0 at ≢ bits 12 0 set_at → (old new : Result ℕ Refusal) → ReadHighGives before s at old → ReadHighGives after s at new
      → new ≡ old

-- after every set over a run of 8,192: such a set is accepted
unfoldable pub SetIsRead : Type 0
SetIsRead =
    (before after : List ℕ) (set_at e : ℕ) (answer : Result (Unit {0}) Refusal) → SetEntryGives before set_at e after answer → length before ≡ 8192
    → (s : State) (at : ℕ) → ReadAfterSet before after set_at e s at
