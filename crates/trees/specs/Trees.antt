-- Number 12, as far as it speaks of directories and tables. Directory d is words 512d to 512d+511, table t is words 1024t to 1024t+1023:
-- directory d stands in the words of table d div 2.
use Rattle.std.specs.Prelude.{ℕ, ◌/◌, Bool, true, not, cond, ◌&&◌, ◌||◌, List, length, get_or, eqb}
use Rattle.runs.specs.Counts.{any}
use Rattle.page_table.specs.Words.{present, number}
use Rattle.page_table.specs.Stretches.{stretch_size, broken, directory_word}
use Rattle.page_table.specs.Reads.{leads_on}
use Rattle.reach.specs.Reach.{leads_to}

-- one of the first n words of directory d leads on to table t
unfoldable pub names_table : (words : List ℕ) (d n t : ℕ) → Bool
names_table words d n t = any (λ j. leads_to (length words) 0 (directory_word words d j) t) n

-- the word w leads on to a table that one of the first n words of directory d leads on to as well
unfoldable pub also_named : (words : List ℕ) (w d n : ℕ) → Bool
also_named words w d n = leads_on (length words) 0 w && names_table words d n (number w)

-- "a directory word is broken"
unfoldable pub has_broken : (words : List ℕ) (d : ℕ) → Bool
has_broken words d = any (λ j. present (directory_word words d j) && broken (length words) (stretch_size 0) (directory_word words d j)) 512

-- "two present directory words of this tree name one table"
unfoldable pub names_twice : (words : List ℕ) (d : ℕ) → Bool
names_twice words d = any (λ j. also_named words (directory_word words d j) d j) 512

-- "its directory and tables overlap"
unfoldable pub overlaps : (words : List ℕ) (d : ℕ) → Bool
overlaps words d = names_table words d 512 (d / 2)

-- a table of directory e is one of directory d
unfoldable pub shares_table : (words : List ℕ) (d e : ℕ) → Bool
shares_table words d e = any (λ j. also_named words (directory_word words e j) d 512) 512

-- a word of directory d or of its tables lies in directory e or in one of its tables
unfoldable pub meets : (words : List ℕ) (d e : ℕ) → Bool
meets words d e = eqb d e || names_table words d 512 (e / 2) || names_table words e 512 (d / 2) || shares_table words d e

-- such a word lies in a stretch that root r reaches, another one than the identification's
unfoldable pub meets_root : (words : List ℕ) (id d r : ℕ) → Bool
meets_root words id d r = not (eqb r id) && leads_on (length words) 1 (get_or words r 0) && meets words d (number (get_or words r 0))

-- "a word of them lies in a stretch another root reaches"
unfoldable pub met : (words : List ℕ) (id d : ℕ) → Bool
met words id d = any (meets_root words id d) 64

-- a directory whose tree stands by itself
unfoldable pub apart : (words : List ℕ) (id d : ℕ) → Bool
apart words id d = not (has_broken words d) && not (names_twice words d) && not (overlaps words d) && not (met words id d)

-- the tree of an identification passes: an absent root does, a broken one does not
unfoldable pub tree_fits : (words : List ℕ) (id : ℕ) → Bool
tree_fits words id =
    cond (present (get_or words id 0))
    (not (broken (length words) (stretch_size 1) (get_or words id 0)) && apart words id (number (get_or words id 0)))
    true
