-- A file that is read block by block.
use Rattle.std.specs.Prelude.{ℕ, ◌+◌, ◌*◌, ◌<◌, ◌≡◌, Bool, true, false, ◌&&◌, List, ◌⊎◌, is_ok, length, ltb, ℤ}
use Rattle.streams.specs.declared.Stop.{Stop}
use Rattle.streams.specs.declared.Stop.TheVariants.{Full, Ended, Failed}
use Rattle.store.specs.Machine.{Machine}
use Rattle.trace.specs.Commands.{commands_of}
use Rattle.report.specs.Tallies.{tally_of}
use Rattle.report.specs.declared.Replay.{Replay}
use Rattle.reporting.specs.Blocks.{BYTES, BlockGives}
use Rattle.reporting.specs.declared.Block.{Block}
use Rattle.reporting.specs.declared.Replayed.{Replayed}

-- A block of a file: there are the bytes of full blocks before it, after which no total had passed the limit, and it was counted from the
-- machine and the totals that these left.
pub record Reached (m : Machine) (totals : List ℤ) (b : Block) (blocks : ℕ) (p : Replay) (input-after : List ℕ) : Type 0 where
  pub before : List ℕ
  pub count : ℕ
  pub full : length before ≡ BYTES * count
  pub blocks-are : blocks ≡ count + 1
  pub fitted : (tally_of m totals (commands_of before)).fits ≡ true
  pub block : BlockGives (tally_of m totals (commands_of before)).machine (tally_of m totals (commands_of before)).totals b p input-after

-- the most blocks of a file
abbrev pub MOST : ℕ
MOST = 18446744073709551615

-- the run of a block is full
abbrev pub is_full : Stop → Bool
is_full Full = true
is_full Ended = false
is_full Failed = false

-- a block is followed by another, where there are so many: every total is within the limit, and it is full
unfoldable pub goes_on : Block → (blocks : ℕ) → Bool
goes_on b blocks = (is_ok b.counted && is_full b.filled.stop) && ltb blocks MOST

-- why no block follows one: a total has passed the limit, a read failed, the file ended before the block was full, or it is the last of
-- the most blocks
abbrev pub EndsAt : Block → (blocks : ℕ) → Type 0
EndsAt b blocks =
    (is_ok b.counted ≡ false)
    ⊎ ((b.filled.stop ≡ Failed) ⊎ (((b.filled.length < BYTES) × (b.filled.stop ≡ Ended)) ⊎ (blocks ≡ MOST)))

-- What a replay promises of the block that it answers: it is one of the file, the last one for a reason, and the blocks are counted. Which
-- bytes stood in the blocks before it, only a run shows.
pub record ReplayGives (m : Machine) (totals : List ℤ) (r : Replayed) (p : Replay) (input-after : List ℕ) : Type 0 where
  pub reached : Reached m totals r.last r.blocks p input-after
  pub why : EndsAt r.last r.blocks
  pub registers-are : r.registers ≡ p.registers
