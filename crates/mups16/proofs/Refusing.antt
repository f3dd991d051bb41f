-- Every call with a run of entries is refused by the run's length alone: its ways, accepted and refused. Assumes nothing.
use Prim.Native.Nat.{ℕ}
use mathlib.Core.Path.{◌≡◌}
use mathlib.Core.Bool.{Bool, true, false, cond}
use mathlib.Core.List.{List}
use Rattle.std.specs.Prelude.{Result}
use Rattle.mups16.specs.Answers.{refusal_of, refusal, by_entries}
use Rattle.mups16.specs.Entries.{entries_fit}
use Rattle.mups16.specs.declared.refusal.Refusal.{Refusal}

-- an answer tells its refusal: 0 exactly where the call is accepted
pub told : {A B : Type 0} (answer : A → Result B Refusal) (entries : List ℕ) (accepted refused : A) → refusal_of (answer accepted) ≡ 0
    → refusal_of (answer refused) ≡ 2 → refusal_of (answer (by_entries entries accepted refused)) ≡ refusal entries
unfolding by_entries refusal
told {A} {B} answer entries accepted refused a r = by-test (entries_fit entries)
  where
    by-test : (b : Bool) → refusal_of (answer (cond b accepted refused)) ≡ cond b 0 2
    by-test true = a
    by-test false = r

-- what a call gives over a run that fits
pub given : {A : Type 0} (entries : List ℕ) (accepted refused : A) → entries_fit entries ≡ true
    → by_entries entries accepted refused ≡ accepted
unfolding by_entries
given entries accepted refused h = rw h

pub not-given : {A : Type 0} (entries : List ℕ) (accepted refused : A) → entries_fit entries ≡ false
    → by_entries entries accepted refused ≡ refused
unfolding by_entries
not-given entries accepted refused h = rw h
