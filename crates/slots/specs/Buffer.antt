-- The translation buffer, a lent run of 64 numbers of 64 bits each: one slot read, one slot replaced. No other file looks into it.
use Rattle.std.specs.Prelude.{ℕ, ◌%◌, ◌^◌, Bool, List, length, get_or, set, eqb}

pub data Buffer : Type 0 where
  Wide : (numbers : List ℕ) → Buffer

-- number 2: the buffer run is not 64 long
unfoldable pub buffer_fits : Buffer → Bool
buffer_fits (Wide numbers) = eqb (length numbers) 64

-- the entry at a slot: bits 44 and up are ignored on reading
unfoldable pub slot_at : Buffer → (slot : ℕ) → ℕ
slot_at (Wide numbers) slot = get_or numbers slot 0 % 2 ^ 44

-- the buffer with the entry e at a slot: bits 44 and up are written as zero
unfoldable pub with_slot : Buffer → (slot e : ℕ) → Buffer
with_slot (Wide numbers) slot e = Wide (set numbers slot (e % 2 ^ 44))
