-- How the code brings the links up to date: one word's link is added or taken away at a time.
use Rattle.std.specs.Prelude.{ℕ, zero, suc, ◌+◌, ◌-◌, ◌*◌, ◌/◌, ◌<◌, ◌≡◌, Bool, true, false, cond, not, ◌&&◌, ◌||◌, List, length, get_or, set, eqb}
use Rattle.runs.specs.Counts.{any}
use Rattle.page_table.specs.Words.{number}
use Rattle.page_table.specs.Reads.{leads_on}
use Rattle.reach.specs.Reach.{leads_to}
use Rattle.reach.specs.Index.{links_from}

-- a root other than `root` leads on to directory d; 64 is no root, so that with it all of them count
unfoldable pub reached_beside : (words : List ℕ) (root d : ℕ) → Bool
reached_beside words root d = any (λ r. not (eqb r root) && leads_to (length words) 1 (get_or words r 0) d) 64

-- that, or the word w at `root` leads on to it
unfoldable pub reached_with : (words : List ℕ) (root w d : ℕ) → Bool
reached_with words root w d = reached_beside words root d || leads_to (length words) 1 w d

-- the links where the word w at `root` is counted, and where that root is left out
unfoldable pub root_links : (counted : Bool) (words : List ℕ) (root w : ℕ) → List ℕ
root_links true words root w = links_from (λ j. reached_with words root w (j / 512)) words
root_links false words root w = links_from (λ j. reached_beside words root (j / 512)) words

-- one more, or one fewer; and that a number of 32 bits has room for it
unfoldable pub stepped : (up : Bool) (n : ℕ) → ℕ
stepped up n = cond up (n + 1) (n - 1)

unfoldable pub Steps : (up : Bool) (n : ℕ) → Type 0
Steps true n = n < 4294967295
Steps false n = 0 < n

-- the links with that of the word w added or taken away, and that there is room for it
unfoldable pub relinked : (up : Bool) (len w : ℕ) (links : List ℕ) → List ℕ
relinked up len w links = cond (leads_on len 0 w) (set links (number w) (stepped up (get_or links (number w) 0))) links

pub record Relinks (up : Bool) (len w : ℕ) (links : List ℕ) : Type 0 where
  pub inside : leads_on len 0 w ≡ true → number w < length links
  pub room : leads_on len 0 w ≡ true → Steps up (get_or links (number w) 0)

-- and with those of the first n words of directory d
unfoldable pub relinked_first : (up : Bool) (words : List ℕ) (d n : ℕ) (links : List ℕ) → List ℕ
relinked_first up words d zero links = links
relinked_first up words d (suc n) links = relinked up (length words) (get_or words (512 * d + n) 0) (relinked_first up words d n links)

abbrev pub RelinksAll : (up : Bool) (words : List ℕ) (d : ℕ) (links : List ℕ) → Type 0
RelinksAll up words d links =
    (n : ℕ) → n < 512 → Relinks up (length words) (get_or words (512 * d + n) 0) (relinked_first up words d n links)
