-- The ways through the set of an entry: premises are the tests and what the callees gave, in the order of the code. Assumes nothing.
use Prim.Native.Nat.{ℕ, ◌%◌}
use mathlib.Core.Path.{◌≡◌, refl, sym, ap, ap₂, ◌∙◌}
use mathlib.Core.Logic.{◌≢◌}
use mathlib.Core.List.{List}
use lib.ListN.{length, set}
use Rattle.std.specs.Prelude.{Result, Ok}
use Rattle.runs.proofs.Bits.{bits-low}
use Rattle.mups16.specs.Answers.{refusal_of, wrong_length}
use Rattle.mups16.specs.Entries.{place_of}
use Rattle.mups16.specs.Set.{set_answer, entries_after_set, SetEntryGives}
use Rattle.mups16.specs.declared.refusal.Refusal.{Refusal}
use Rattle.mups16.proofs.EntryLaws.{length-fits, length-wrong}
use Rattle.mups16.proofs.Refusing.{told, given, not-given}

module _ (entries : List ℕ) (at e : ℕ) where
  pub set_gives : (after : List ℕ) (answer : Result (Unit {0}) Refusal) → answer ≡ set_answer entries → after ≡ entries_after_set entries at e
      → SetEntryGives entries at e after answer
  unfolding set_answer refusal_of
  set_gives after answer q r = record {
    refusal_is = ap refusal_of q ∙ told (λ (a : Result (Unit {0}) Refusal). a) entries _ _ refl refl;
    answer-is = q;
    entries-are = r;
  }

  pub set-refused : length entries ≢ 8192 → SetEntryGives entries at e entries wrong_length
  unfolding set_answer entries_after_set
  set-refused d =
      set_gives _ _ (sym (not-given entries _ _ (length-wrong entries d))) (sym (not-given entries _ _ (length-wrong entries d)))

  pub set-done : length entries ≡ 8192 → (run : List ℕ) → run ≡ entries → (place : ℕ) → place ≡ place_of at
      → SetEntryGives entries at e (set run place (e % 524288)) (Ok tt)
  unfolding set_answer entries_after_set
  set-done long run same place pq =
      set_gives _ _ (sym (given entries _ _ (length-fits entries long)))
      (ap (λ (l : List ℕ). set l place (e % 524288)) same
      ∙ ap₂ (set entries) pq (sym (bits-low 18 e))
      ∙ sym (given entries _ _ (length-fits entries long)))
