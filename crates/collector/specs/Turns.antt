-- How the code makes a pass, one visited leaf after another: a rewrite each, and where the leaf was not valid its frame goes back.
use Rattle.std.specs.Prelude.{ℕ, ◌+◌, ◌≡◌, true, false, not, cond, Option, None, Some, List, [], ◌∷◌, set}
use Rattle.runs.specs.Bits.{bit}
use Rattle.page_table.specs.Words.{leaf_valid, leaf_pfn}
use Rattle.slots.specs.Buffer.{Buffer}
use Rattle.store.specs.Rewrite.{Put}
use Rattle.store.specs.Sweep.{swept, emptied}
use Rattle.heap.specs.Give.{give_reply}
use Rattle.heap.specs.declared.Pool.{Pool}
use Rattle.collector.specs.Visits.{aged}
use Rattle.collector.specs.Frames.{all_given, pool_after_gives}
use Rattle.collector.specs.declared.Aged.{Aged}

pub record State : Type 0 where
  pub buffer : Buffer
  pub words : List ℕ
  pub aged : Aged

-- before the first
abbrev pub at_first : Pool → Aged
at_first p = record { given = 0; emptied = 0; pool = p }

-- "its frame goes back": the call give
unfoldable pub pool_after : Pool → (w : ℕ) → Pool
pool_after p w = cond (leaf_valid w) p (give_reply p (leaf_pfn w)).pool

-- a visit of the leaf q: its index, and its word as it came in
unfoldable pub turn : State → (q : Put) → State
turn s q = record {
  buffer = swept (set s.words q.index (aged q.value)) s.buffer;
  words = set s.words q.index (aged q.value);
  aged = record {
    given = s.aged.given + bit (not (leaf_valid q.value));
    emptied = s.aged.emptied + emptied (set s.words q.index (aged q.value)) s.buffer;
    pool = pool_after s.aged.pool q.value;
  };
}

unfoldable pub turns : State → List Put → State
turns s [] = s
turns s (q ∷ qs) = turns (turn s q) qs

-- how the code checks the frames: it gives them from a copy of the pool, until a give is refused; the pool after that, if none was
abbrev pub ChecksBy : Pool → List ℕ → Option Pool → Type 0
ChecksBy p pfns None = all_given p pfns ≡ false
ChecksBy p pfns (Some after) = (all_given p pfns ≡ true) × (after ≡ pool_after_gives p pfns)
