-- The words that the tables' bytes hold: how many, each one, and all after one is written. Assumes nothing.
use Prim.Native.Nat.{ℕ, ◌+◌, ◌*◌, ◌/◌, ◌≤◌, ◌<◌}
use mathlib.Core.Path.{◌≡◌, sym, ap, ◌∙◌}
use mathlib.Core.List.{List}
use native.Mathlib.Omega.{arith}
use lib.ListN.{length, get_or, set}
use Rattle.wire.specs.Wire.{element_at, with_element}
use Rattle.wire.proofs.Elements.{decoded-length, decoded-at, decoded-with, with-length}
use Rattle.slots.specs.Buffer.{Buffer}
use Rattle.store.specs.Sweep.{SweepGives, emptied, swept}
use Rattle.store.specs.Rewrite.{written}
use Rattle.table_bytes.specs.TableBytes.{words_of, RewriteGives}

pub words-length : (bytes : List ℕ) → length (words_of bytes) ≡ length bytes / 4
unfolding words_of
words-length bytes = decoded-length 4 bytes (length bytes / 4)

pub roots_inside : (bytes : List ℕ) → 256 ≤ length bytes → 64 ≤ length (words_of bytes)
roots_inside bytes h = rw (words-length bytes) (omega arith)

-- a word of the run has its four bytes
pub word-inside : (bytes : List ℕ) (i : ℕ) → i < length (words_of bytes) → 4 * i + 4 ≤ length bytes
word-inside bytes i h = let l : i < length bytes / 4 = rw (words-length bytes) at h in omega arith

-- the roots are there after one is written
pub roots-stay : (bytes after : List ℕ) (i x : ℕ) → 256 ≤ length bytes → i < length (words_of bytes) → after ≡ with_element 4 bytes i x
    → 64 ≤ length (words_of after)
roots-stay bytes after i x long h e = roots_inside after (rw (e, with-length 4 bytes i x (word-inside bytes i h)) long)

pub word_stands : (bytes : List ℕ) (i word : ℕ) → i < length (words_of bytes) → word ≡ element_at 4 bytes i → word ≡ get_or (words_of bytes) i 0
unfolding words_of
word_stands bytes i word h e = e ∙ sym (decoded-at 4 bytes (length bytes / 4) i (rw (words-length bytes) at h))

-- the words after one is written
pub words-with : (bytes : List ℕ) (i x : ℕ) → i < length (words_of bytes) → x < 4294967296
    → words_of (with_element 4 bytes i x) ≡ set (words_of bytes) i x
unfolding words_of
words-with bytes i x h fits =
    rw (with-length 4 bytes i x (word-inside bytes i h))
    (decoded-with 4 bytes (length bytes / 4) i x (rw (words-length bytes) at h) (omega arith) fits)

pub rewritten : (bytes after : List ℕ) (index value number : ℕ) (b left : Buffer) → index < length (words_of bytes) → value < 4294967296
    → after ≡ with_element 4 bytes index value → SweepGives (words_of after) b left number
    → RewriteGives (record { index = index; value = value }) bytes after b left number
unfolding written
rewritten bytes after index value number b left h fits e s =
    let words = ap words_of e ∙ words-with bytes index value h fits in
    record {
      number_is = s.number_is ∙ ap (λ (ws : List ℕ). emptied ws b) words;
      buffer-is = s.buffer-is ∙ ap (λ (ws : List ℕ). swept ws b) words;
      bytes-are = e;
    }
