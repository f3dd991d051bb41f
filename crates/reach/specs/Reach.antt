-- The directories and the tables that the 64 roots reach.
use Rattle.std.specs.Prelude.{ℕ, ◌/◌, Bool, ◌&&◌, List, length, get_or, eqb}
use Rattle.runs.specs.Counts.{any}
use Rattle.page_table.specs.Words.{number}
use Rattle.page_table.specs.Reads.{leads_on}

-- in a run of a length, the word w leads on to the stretch of a number, which has so many levels below it
unfoldable pub leads_to : (len levels w n : ℕ) → Bool
leads_to len levels w n = leads_on len levels w && eqb (number w) n

-- a root 0 to 63 leads on to directory d
unfoldable pub directory_reached : (words : List ℕ) (d : ℕ) → Bool
directory_reached words d = any (λ root. leads_to (length words) 1 (get_or words root 0) d) 64

-- the word at index j, taken for a directory word, leads on to table t
unfoldable pub links_to : (words : List ℕ) (j t : ℕ) → Bool
links_to words j t = leads_to (length words) 0 (get_or words j 0) t

-- Some word of a reached directory leads on to table t. Directory d is words 512d to 512d+511, so index j stands in directory j div 512.
unfoldable pub table_reached : (words : List ℕ) (t : ℕ) → Bool
table_reached words t = any (λ j. directory_reached words (j / 512) && links_to words j t) (length words)
