-- The report over a term's traces: a line for each identification of a file, with fourteen totals, of which the last may be below zero.
use Rattle.std.specs.Prelude.{ℕ, zero, suc, ◌+◌, ◌*◌, List, [], ◌++◌, ℤ, pos, negsuc, get_or}
use Rattle.line.specs.Text.{ascii, decimal}

-- how many totals an identification has, how many identifications there are, and how many totals in all
abbrev pub COLUMNS : ℕ
COLUMNS = 14

abbrev pub LINES : ℕ
LINES = 63

abbrev pub TOTALS : ℕ
TOTALS = LINES * COLUMNS

-- how many bytes a line has at most
abbrev pub ROW : ℕ
ROW = 318

-- a total in decimal, with a minus sign below zero
unfoldable pub signed : ℤ → List ℕ
signed (pos n) = decimal n
signed (negsuc n) = ascii "-" ++ decimal (suc n)

-- a total with a space before it
unfoldable pub total_text : ℤ → List ℕ
total_text total = ascii " " ++ signed total

-- so many totals from an index on
unfoldable pub totals_text : (totals : List ℤ) (from count : ℕ) → List ℕ
totals_text totals from zero = []
totals_text totals from (suc n) = totals_text totals from n ++ total_text (get_or totals (from + n) (pos 0))

-- the first two: the file's number and the identification
unfoldable pub row_head : (number id : ℕ) → List ℕ
row_head number id = decimal number ++ ascii " " ++ decimal id

-- an identification's line: the file's number, the identification, its fourteen totals
unfoldable pub row_of : (number id : ℕ) (totals : List ℤ) → List ℕ
row_of number id totals = row_head number id ++ totals_text totals (COLUMNS * id) COLUMNS ++ ascii "\n"

-- the lines of the first n identifications
unfoldable pub rows_of : (number n : ℕ) (totals : List ℤ) → List ℕ
rows_of number zero totals = []
rows_of number (suc n) totals = rows_of number n totals ++ row_of number n totals

-- "Each file gives 63 lines, identifications 0 to 62"
unfoldable pub report_of : (number : ℕ) (totals : List ℤ) → List ℕ
report_of number totals = rows_of number LINES totals

-- a file that was stopped
unfoldable pub refused_text : (number : ℕ) → List ℕ
refused_text number = decimal number ++ ascii " refused 9\n"

-- a file that can't be read
unfoldable pub unread_text : (number : ℕ) → List ℕ
unread_text number = decimal number ++ ascii " unread\n"
