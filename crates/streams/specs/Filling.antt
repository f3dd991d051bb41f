-- Reading as much as a run holds.
use Rattle.std.specs.Prelude.{ℕ, ◌≤◌, ◌<◌, ◌≡◌}
use Rattle.streams.specs.declared.Filled.{Filled}
use Rattle.streams.specs.declared.Stop.{Stop}
use Rattle.streams.specs.declared.Stop.TheVariants.{Full, Ended, Failed}

-- why reading stopped, behind so many bytes of a run of n: it is full exactly where no byte is missing
abbrev pub StopsAt : (n length : ℕ) → Stop → Type 0
StopsAt n length Full = length ≡ n
StopsAt n length Ended = length < n
StopsAt n length Failed = length < n

-- so many bytes were read: the run is full, the input ended before, or a read failed before
pub record Fills (n : ℕ) (f : Filled) : Type 0 where
  pub fits : f.length ≤ n
  pub why : StopsAt n f.length f.stop
