-- The frames of the visited leaves, and number 12 as far as it speaks of frames.
use Rattle.std.specs.Prelude.{ℕ, ◌+◌, Bool, true, cond, not, ◌&&◌, List, [], ◌∷◌, eqb, leb}
use Rattle.runs.specs.Counts.{any}
use Rattle.page_table.specs.Words.{leaf_valid, leaf_pfn}
use Rattle.store.specs.Rewrite.{Put}
use Rattle.heap.specs.Bits.{held_at}
use Rattle.heap.specs.Give.{give_refusal, give_reply}
use Rattle.heap.specs.Sequences.{times}
use Rattle.heap.specs.declared.Pool.{Pool}

-- the pfns of leaves
unfoldable pub pfns_of : List Put → List ℕ
pfns_of [] = []
pfns_of (q ∷ qs) = leaf_pfn q.value ∷ pfns_of qs

-- "valid 0 .. its frame goes back": the pfns of those among them that are not valid
unfoldable pub given_of : List Put → List ℕ
given_of [] = []
given_of (q ∷ qs) = cond (leaf_valid q.value) (given_of qs) (leaf_pfn q.value ∷ given_of qs)

-- "a pool frame is mapped by two of its leaves"
unfoldable pub mapped_twice : Pool → List ℕ → Bool
mapped_twice p pfns = any (λ place. leb 2 (times (p.first + place) pfns)) p.size

-- ".. or by one while not held"
unfoldable pub mapped_unheld : Pool → List ℕ → Bool
mapped_unheld p pfns = any (λ place. leb 1 (times (p.first + place) pfns) && not (held_at p.bits place)) p.size

-- neither of the two
unfoldable pub mapped_right : Pool → List ℕ → Bool
mapped_right p pfns = not (mapped_twice p pfns) && not (mapped_unheld p pfns)

-- frames given one after another: whether each give is accepted, and the pool after them
unfoldable pub all_given : Pool → List ℕ → Bool
all_given p [] = true
all_given p (pfn ∷ rest) = eqb (give_refusal p pfn) 0 && all_given (give_reply p pfn).pool rest

unfoldable pub pool_after_gives : Pool → List ℕ → Pool
pool_after_gives p [] = p
pool_after_gives p (pfn ∷ rest) = pool_after_gives (give_reply p pfn).pool rest
