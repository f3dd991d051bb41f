-- Calls on a pool one after another, whatever calls they are.
use Rattle.std.specs.Prelude.{ℕ, ◌+◌, List, [], ◌∷◌, ◌++◌, eqb}
use Rattle.runs.specs.Bits.{bit}
use Rattle.heap.specs.declared.Pool.{Pool}

-- A set of calls. An event is one of them that may change a pool: its other arguments, what it answered, and what it left in the runs that
-- it was lent.
pub record Calls : Type 1 where
  pub Event : Type 0
  -- the call was handed this pool, and kept its promise
  pub Kept : Pool → Event → Type 0
  -- the pool that it handed back
  pub pool_left : Event → Pool
  -- the frames that it took and those that it gave, by their pfns: told by its arguments and its answer, and not by any pool
  pub taken_by : Event → List ℕ
  pub given_by : Event → List ℕ

-- "each call handed the last one's pool", refused ones too
unfoldable pub KeptThroughout : (c : Calls) → Pool → List c.Event → Type 0
KeptThroughout c p [] = Unit {0}
KeptThroughout c p (e ∷ es) = c.Kept p e × KeptThroughout c (c.pool_left e) es

unfoldable pub last_pool : (c : Calls) → Pool → List c.Event → Pool
last_pool c p [] = p
last_pool c p (e ∷ es) = last_pool c (c.pool_left e) es

-- "the history of takes, mappings among them, and gives"
unfoldable pub taken_in : (c : Calls) → List c.Event → List ℕ
taken_in c [] = []
taken_in c (e ∷ es) = c.taken_by e ++ taken_in c es

unfoldable pub given_in : (c : Calls) → List c.Event → List ℕ
given_in c [] = []
given_in c (e ∷ es) = c.given_by e ++ given_in c es

-- how often a pfn stands in a list
unfoldable pub times : (pfn : ℕ) → List ℕ → ℕ
times pfn [] = 0
times pfn (x ∷ xs) = bit (eqb x pfn) + times pfn xs

-- what happens where requests are made one after another, and each is answered so
unfoldable pub history_of : (c : Calls) (Request : Type 0) (answered : Pool → Request → c.Event) → Pool → List Request → List c.Event
history_of c Request answered p [] = []
history_of c Request answered p (q ∷ qs) = answered p q ∷ history_of c Request answered (c.pool_left (answered p q)) qs

-- whatever is asked, there is such a history: what is said of all of them is not said of none
unfoldable pub EveryHistoryOf : (c : Calls) (Request : Type 0) (answered : Pool → Request → c.Event) → Type 0
EveryHistoryOf c Request answered = (p : Pool) (requests : List Request) → KeptThroughout c p (history_of c Request answered p requests)
