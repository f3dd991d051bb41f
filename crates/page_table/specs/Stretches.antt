-- The run of table words and the stretches in it: a directory or a table, by how many levels are left below it (one or none).
use Rattle.std.specs.Prelude.{ℕ, zero, suc, ◌+◌, ◌*◌, ◌/◌, ◌%◌, Bool, not, ◌&&◌, ◌||◌, List, length, get_or, take, drop, eqb, leb}
use Rattle.page_table.specs.Words.{reserved, number}

-- how many roots there are, how many words a table has, and how many the longest run
abbrev pub ROOTS : ℕ
ROOTS = 64

abbrev pub TABLE : ℕ
TABLE = 1024

abbrev pub LONGEST : ℕ
LONGEST = 67108864

-- the run passes the test of refusal 3: not below 1,024 words, not above 67,108,864, a multiple of 1,024
unfoldable pub length_fits : (length : ℕ) → Bool
length_fits length = leb 1024 length && leb length 67108864 && eqb (length % 1024) 0

unfoldable pub tables_fit : (words : List ℕ) → Bool
tables_fit words = length_fits (length words)

-- "Directory d is words 512d to 512d+511; table t is words 1024t to 1024t+1023."
unfoldable pub stretch_size : (levels : ℕ) → ℕ
stretch_size zero = 1024
stretch_size (suc n) = 512

-- word j of directory d, which stands for the pages 1024j to 1024j+1023
unfoldable pub directory_word : (words : List ℕ) (d j : ℕ) → ℕ
directory_word words d j = get_or words (512 * d + j) 0

-- the very words of the stretch with a number
unfoldable pub stretch : (words : List ℕ) (size number : ℕ) → List ℕ
stretch words size number = take size (drop (size * number) words)

-- "the directory at vpn div 1024, the table at vpn mod 1024"
unfoldable pub index_in : (levels vpn : ℕ) → ℕ
index_in zero vpn = vpn % 1024
index_in (suc n) vpn = vpn / 1024

-- the stretch is wholly inside a run of that length
unfoldable pub inside : (length size number : ℕ) → Bool
inside length size number = leb (size * number + size) length

-- "A present root or directory word is broken if reserved bits are set, the number is 0, or the stretch isn't wholly inside the run."
unfoldable pub broken : (length size w : ℕ) → Bool
broken length size w = not (eqb (reserved w) 0) || eqb (number w) 0 || not (inside length size (number w))
