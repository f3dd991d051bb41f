-- A block of a file.
use Rattle.std.specs.Prelude.{ℕ, ◌*◌, ◌≡◌, List, is_ok, length, take, ℤ}
use Rattle.streams.specs.Filling.{Fills}
use Rattle.store.specs.Machine.{Machine}
use Rattle.trace.specs.Commands.{commands_of}
use Rattle.report.specs.Tallies.{tally_of, CountGives}
use Rattle.report.specs.declared.Replay.{Replay}
use Rattle.reporting.specs.declared.Block.{Block}

-- a full block's records and bytes: a record has 8
abbrev pub RECORDS : ℕ
RECORDS = 8192

abbrev pub BYTES : ℕ
BYTES = 8 * RECORDS

-- What a block promises: registers, runs and totals are those after the records of the bytes that were read, from the machine and the
-- totals that it was handed; and where it is not full, the file has ended or a read failed. Which bytes a read gave, and whether it did
-- answer so, only a run shows.
pub record BlockGives (m : Machine) (totals : List ℤ) (b : Block) (p : Replay) (input-after : List ℕ) : Type 0 where
  pub room : length input-after ≡ BYTES
  pub fills : Fills (length input-after) b.filled
  pub counted : CountGives (tally_of m totals (commands_of (take b.filled.length input-after))) (is_ok b.counted) p
