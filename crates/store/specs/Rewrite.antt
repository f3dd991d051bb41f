-- A rewrite: table words are written, and then the buffer is swept once.
use Rattle.std.specs.Prelude.{ℕ, ◌≡◌, List, [], ◌∷◌, set}
use Rattle.slots.specs.Buffer.{Buffer}
use Rattle.store.specs.Sweep.{swept, emptied}

-- a value for the word at an index
pub record Put : Type 0 where
  pub index : ℕ
  pub value : ℕ

-- the words after some are written, one after the other
unfoldable pub written : List Put → (words : List ℕ) → List ℕ
written [] words = words
written (p ∷ ps) words = written ps (set words p.index p.value)

-- what a rewrite answers and leaves
pub record RewriteGives (puts : List Put) (words words-after : List ℕ) (b after : Buffer) (number : ℕ) : Type 0 where
  pub number_is : number ≡ emptied (written puts words) b
  pub buffer-is : after ≡ swept (written puts words) b
  pub words_are : words-after ≡ written puts words
