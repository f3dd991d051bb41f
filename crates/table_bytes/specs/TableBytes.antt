-- The page tables as a lent run of bytes: four for each word, most significant first.
use Rattle.std.specs.Prelude.{ℕ, ◌*◌, ◌/◌, ◌≡◌, List, [], ◌∷◌, length}
use Rattle.wire.specs.Wire.{decoded, with_element}
use Rattle.page_table.specs.Stretches.{stretch}
use Rattle.slots.specs.Buffer.{Buffer}
use Rattle.store.specs.Sweep.{swept, emptied}
use Rattle.store.specs.Rewrite.{Put, written}

-- the words that the bytes hold
unfoldable pub words_of : (bytes : List ℕ) → List ℕ
words_of bytes = decoded 4 bytes (length bytes / 4)

-- the very bytes of the stretch with a number, four for each of its words
unfoldable pub stretch_bytes : (bytes : List ℕ) (size number : ℕ) → List ℕ
stretch_bytes bytes size number = stretch bytes (4 * size) number

-- what the rewrite of one word answers and leaves: its four bytes are the value's, and no other changes
pub record RewriteGives (p : Put) (bytes bytes_after : List ℕ) (b after : Buffer) (number : ℕ) : Type 0 where
  pub number_is : number ≡ emptied (written (p ∷ []) (words_of bytes)) b
  pub buffer-is : after ≡ swept (written (p ∷ []) (words_of bytes)) b
  pub bytes-are : bytes_after ≡ with_element 4 bytes p.index p.value
