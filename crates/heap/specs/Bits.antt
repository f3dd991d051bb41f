-- A bit for each frame, in 64-bit words: the frame at a place has bit (place mod 64) of word (place div 64). A set bit is a held frame.
use Rattle.std.specs.Prelude.{ℕ, ◌≡◌, ◌/◌, ◌%◌, ◌<◌, Bool, not, List, get_or, set, Option, Some, None}
use Rattle.runs.specs.Counts.{lowest}
use Rattle.runs.specs.Bits.{flag, with_flag}

-- whether the frame at a place is held, and whether it is free
unfoldable pub held_at : (bits : List ℕ) (place : ℕ) → Bool
held_at bits place = flag (place % 64) (get_or bits (place / 64) 0)

unfoldable pub free_at : (bits : List ℕ) (place : ℕ) → Bool
free_at bits place = not (held_at bits place)

-- the words with the frame at a place held or free; every other bit stays
unfoldable pub with_held : (held : Bool) (place : ℕ) (bits : List ℕ) → List ℕ
with_held held place bits = set bits (place / 64) (with_flag held (place % 64) (get_or bits (place / 64) 0))

-- the place of "the lowest free frame" among so many; none where every one is held
abbrev pub IsLowestFree : (bits : List ℕ) (size : ℕ) (place : Option ℕ) → Type 0
IsLowestFree bits size (Some place) = (place ≡ lowest (free_at bits) size size) × (place < size)
IsLowestFree bits size None = lowest (free_at bits) size size ≡ size
