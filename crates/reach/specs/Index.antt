-- An index of the tables, kept beside them: for each table, how many words of reached directories lead on to it, and
-- how many of its own words are present.
use Rattle.std.specs.Prelude.{ℕ, ◌+◌, ◌*◌, ◌/◌, ◌≡◌, Bool, ◌&&◌, List, length, get_or}
use Rattle.runs.specs.Counts.{count}
use Rattle.runs.specs.Pieces.{tabulate}
use Rattle.page_table.specs.Words.{present}
use Rattle.reach.specs.Reach.{directory_reached, links_to}

-- how many tables a run has room for
unfoldable pub table_count : (words : List ℕ) → ℕ
table_count words = length words / 1024

-- for each table, how many of the words whose index passes the test p lead on to it
unfoldable pub links_from : (p : ℕ → Bool) (words : List ℕ) → List ℕ
links_from p words = tabulate (λ t. count (λ j. p j && links_to words j t) (length words)) 0 (table_count words)

-- for each table, how many words of reached directories lead on to it
unfoldable pub links_of : (words : List ℕ) → List ℕ
links_of words = links_from (λ j. directory_reached words (j / 512)) words

-- for each table, how many of its words are present
unfoldable pub presents_of : (words : List ℕ) → List ℕ
presents_of words = tabulate (λ t. count (λ k. present (get_or words (1024 * t + k) 0)) 1024) 0 (table_count words)

-- the index is that of the tables
pub record Indexes (words links presents : List ℕ) : Type 0 where
  pub links-are : links ≡ links_of words
  pub presents-are : presents ≡ presents_of words
