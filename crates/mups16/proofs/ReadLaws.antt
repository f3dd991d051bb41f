-- The ways through the reads of an entry: premises are the tests and what the callees gave, in the order of the code. Assumes nothing.
use Prim.Native.Nat.{ℕ, ◌+◌, ◌*◌, ◌/◌, ◌%◌}
use mathlib.Core.Path.{◌≡◌, refl, sym, ap, ap₂, ◌∙◌}
use mathlib.Core.Logic.{◌≢◌}
use mathlib.Core.List.{List}
use lib.ListN.{length}
use Rattle.std.specs.Prelude.{Result, Ok, Err, IsErrAnd}
use Rattle.mups16.specs.Answers.{refusal_of}
use Rattle.mups16.specs.Entries.{place_of, entry_at, page_of}
use Rattle.mups16.specs.States.{index_of}
use Rattle.mups16.specs.Read.{low_word, high_word, read_low, read_high, ReadLowGives, ReadHighGives}
use Rattle.mups16.specs.declared.State.{State}
use Rattle.mups16.specs.declared.refusal.Refusal.{Refusal}
use Rattle.mups16.specs.declared.refusal.Refusal.TheVariants.{WrongLength}
use Rattle.mups16.proofs.EntryLaws.{length-fits, length-wrong}
use Rattle.mups16.proofs.Refusing.{told, given, not-given}

-- what `?` hands on
refused-by : (answer : Result ℕ Refusal) → IsErrAnd answer (λ e. e ≡ WrongLength) → answer ≡ Err WrongLength
refused-by (Ok word) h = absurd h
refused-by (Err refusal) h = ap Err h

module _ (entries : List ℕ) (at : ℕ) where
  pub low-gives : (answer : Result ℕ Refusal) → answer ≡ read_low entries at → ReadLowGives entries at answer
  unfolding read_low refusal_of
  low-gives answer q = record { refusal_is = ap refusal_of q ∙ told (λ (a : Result ℕ Refusal). a) entries _ _ refl refl; answer-is = q }

  pub high-gives : (s : State) (answer : Result ℕ Refusal) → answer ≡ read_high entries s at → ReadHighGives entries s at answer
  unfolding read_high refusal_of
  high-gives s answer q = record { refusal_is = ap refusal_of q ∙ told (λ (a : Result ℕ Refusal). a) entries _ _ refl refl; answer-is = q }

  pub low-refused : length entries ≢ 8192 → (answer : Result ℕ Refusal) → IsErrAnd answer (λ e. e ≡ WrongLength)
      → ReadLowGives entries at answer
  unfolding read_low
  low-refused d answer h = low-gives _ (refused-by answer h ∙ sym (not-given entries _ _ (length-wrong entries d)))

  pub high-refused : (s : State) → length entries ≢ 8192 → (answer : Result ℕ Refusal) → IsErrAnd answer (λ e. e ≡ WrongLength)
      → ReadHighGives entries s at answer
  unfolding read_high
  high-refused s d answer h = high-gives s _ (refused-by answer h ∙ sym (not-given entries _ _ (length-wrong entries d)))

  module _ (long : length entries ≡ 8192) (run : List ℕ) (same : run ≡ entries) (place e : ℕ) (pq : place ≡ place_of at)
      (eq : e ≡ entry_at run place) where
    entry-is : e ≡ entry_at entries (place_of at)
    entry-is = eq ∙ ap₂ entry_at same pq

    pub low-done : (page : ℕ) → page ≡ page_of e → ReadLowGives entries at (Ok page)
    unfolding read_low
    low-done page q =
        low-gives _ (ap Ok q ∙ ap (λ (n : ℕ). Ok (low_word n)) entry-is ∙ sym (given entries _ _ (length-fits entries long)))

    pub high-done : (s : State) (index : ℕ) → index ≡ index_of s → ReadHighGives entries s at (Ok (index * 256 + e / 65536 % 8))
    unfolding read_high
    high-done s index iq =
        high-gives s _ (ap₂ (λ (i n : ℕ). Ok (high_word i n)) iq entry-is ∙ sym (given entries _ _ (length-fits entries long)))
