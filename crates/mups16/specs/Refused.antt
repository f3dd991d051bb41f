-- "Refusals: number 2 where its entry run isn't 8,192 long, and no other." A refused call changes nothing.
use Rattle.std.specs.Prelude.{ℕ, ◌≡◌, ◌≢◌, Bool, List, length, Result, Err}
use Rattle.mups16.specs.Answers.{refusal_of}
use Rattle.mups16.specs.Map.{MapGives}
use Rattle.mups16.specs.Read.{ReadLowGives, ReadHighGives}
use Rattle.mups16.specs.Set.{SetEntryGives}
use Rattle.mups16.specs.declared.State.{State}
use Rattle.mups16.specs.declared.refusal.Refusal.{Refusal}
use Rattle.mups16.specs.declared.refusal.Refusal.TheVariants.{WrongLength}
use Rattle.mups16.specs.declared.MapReply.{MapReply}

-- every call that takes this run is refused
pub record AllRefused (entries : List ℕ) : Type 0 where
  pub map_is : (s : State) (virtual : ℕ) (user write : Bool) (reply : MapReply) → MapGives entries s virtual user write reply
      → (reply ≡ record { answer = Err WrongLength; state = s }) × (refusal_of reply.answer ≡ 2)
  pub low-is : (at : ℕ) (answer : Result ℕ Refusal) → ReadLowGives entries at answer → (answer ≡ Err WrongLength) × (refusal_of answer ≡ 2)
  pub high_is : (s : State) (at : ℕ) (answer : Result ℕ Refusal) → ReadHighGives entries s at answer
      → (answer ≡ Err WrongLength) × (refusal_of answer ≡ 2)
  pub set_is : (at e : ℕ) (after : List ℕ) (answer : Result (Unit {0}) Refusal) → SetEntryGives entries at e after answer
      → (answer ≡ Err WrongLength) × (refusal_of answer ≡ 2) × (after ≡ entries)

unfoldable pub WrongLengthRefused : Type 0
WrongLengthRefused = (entries : List ℕ) → length entries ≢ 8192 → AllRefused entries
