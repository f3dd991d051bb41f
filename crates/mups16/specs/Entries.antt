-- The entries, 32 tables of 256. An entry has 19 bits: mapped 18, system 17, writable 16, the physical page 15 to 0.
use Rattle.std.specs.Prelude.{ℕ, Bool, List, eqb, length, get_or, set}
use Rattle.runs.specs.Bits.{bits, flag}

-- how many entries there are
abbrev pub ENTRIES : ℕ
ENTRIES = 8192

unfoldable pub entries_fit : (entries : List ℕ) → Bool
entries_fit entries = eqb (length entries) ENTRIES

-- "An entry address above 8,191 keeps its low 13 bits."
abbrev pub place_of : (at : ℕ) → ℕ
place_of at = bits 12 0 at

-- "An entry's bits 18 to 16 are mapped, system, writable (our order), higher ones read and write as 0": the entry at a place
abbrev pub entry_at : (entries : List ℕ) (place : ℕ) → ℕ
entry_at entries place = bits 18 0 (get_or entries place 0)

-- the entries with another one at a place
abbrev pub with_entry : (entries : List ℕ) (place e : ℕ) → List ℕ
with_entry entries place e = set entries place (bits 18 0 e)

-- "set to 1 if the entry is valid"
abbrev pub mapped : (e : ℕ) → Bool
mapped e = flag 18 e

-- "set to 1 if the page can only be accessed when the USER flag is not set"
abbrev pub system : (e : ℕ) → Bool
system e = flag 17 e

-- "set to 1 if writes to the page should be allowed"
abbrev pub writable : (e : ℕ) → Bool
writable e = flag 16 e

-- "16 bits for the physical page address"
abbrev pub page_of : (e : ℕ) → ℕ
page_of e = bits 15 0 e
