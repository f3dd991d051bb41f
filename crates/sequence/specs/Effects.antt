-- What an accepted call does: one of four effects. The reader and the account of the slots go by effects and not by calls.
use Rattle.std.specs.Prelude.{ℕ, ◌+◌, ◌≡◌, cond, ◌&&◌, List, [], ◌∷◌}
use Rattle.runs.specs.Bits.{bit}
use Rattle.registers.specs.declared.Access.{Access}
use Rattle.registers.specs.declared.Outcome.{Outcome}
use Rattle.registers.specs.declared.Outcome.TheVariants.{Done}
use Rattle.store.specs.Rewrite.{Put, written}
use Rattle.sequence.specs.Reader.{Reader, with_guarded, reader_walk, found_leaf, reader_answer}
use Rattle.sequence.specs.Account.{Slots, try_misses, slots_loaded, slots_swept, slots_emptied}

-- Serve an access; Rewrite groups of table words, each group followed by one sweep; Set a guarded setting; or Keep all of that
pub data Effect : Type 0 where
  Keep : Effect
  Serve : (a : Access) → Effect
  Rewrite : (groups : List (List Put)) → Effect
  Set : (number value : ℕ) → Effect

-- the words after all groups
unfoldable pub rewritten : List (List Put) → (words : List ℕ) → List ℕ
rewritten [] words = words
rewritten (g ∷ gs) words = rewritten gs (written g words)

-- the slots after all sweeps, and how many slots they empty
unfoldable pub swept_all : List (List Put) → (words : List ℕ) → Slots → Slots
swept_all [] words slots = slots
swept_all (g ∷ gs) words slots = swept_all gs (written g words) (slots_swept (written g words) slots)

unfoldable pub emptied_all : List (List Put) → (words : List ℕ) → Slots → ℕ
emptied_all [] words slots = 0
emptied_all (g ∷ gs) words slots =
    slots_emptied (written g words) slots + emptied_all gs (written g words) (slots_swept (written g words) slots)

-- the reader after an effect
unfoldable pub reader_does : Reader → Effect → Reader
reader_does d Keep = d
reader_does d (Serve a) = d
reader_does d (Rewrite gs) = record { words = rewritten gs d.words; settings = d.settings }
reader_does d (Set number value) = record { words = d.words; settings = with_guarded d.settings number value }

-- the account of the slots after an effect; d is the reader before it
unfoldable pub slots_do : Reader → Slots → Effect → Slots
slots_do d slots Keep = slots
slots_do d slots (Serve a) = cond (try_misses d.settings slots a) (slots_loaded (reader_walk d a) d.settings slots a) slots
slots_do d slots (Rewrite gs) = swept_all gs d.words slots
slots_do d slots (Set number value) = slots

-- what an effect owes: an access the reader's answer; a rewrite the number of slots that the account emptied, a setting 0
unfoldable pub AnswerOwed : Reader → Effect → Outcome → Type 0
AnswerOwed d Keep outcome = Unit {0}
AnswerOwed d (Serve a) outcome = outcome ≡ reader_answer d a
AnswerOwed d (Rewrite gs) outcome = Unit {0}
AnswerOwed d (Set number value) outcome = Unit {0}

unfoldable pub CountOwed : Reader → Slots → Effect → Outcome → Type 0
CountOwed d slots Keep outcome = Unit {0}
CountOwed d slots (Serve a) outcome = Unit {0}
CountOwed d slots (Rewrite gs) outcome = outcome ≡ Done (emptied_all gs d.words slots)
CountOwed d slots (Set number value) outcome = outcome ≡ Done 0

-- the entries that it loads: one exactly when an access's first try missed and the reader's walk found a leaf
unfoldable pub loads_owed : Reader → Slots → Effect → ℕ
loads_owed d slots Keep = 0
loads_owed d slots (Serve a) = bit (try_misses d.settings slots a && found_leaf (reader_walk d a))
loads_owed d slots (Rewrite gs) = 0
loads_owed d slots (Set number value) = 0
