-- A trace that is read block by block.
use Rattle.std.specs.Prelude.{ℕ, ◌*◌, ◌<◌, ◌≡◌, Bool, false, ◌&&◌, List, ◌⊎◌, length, eqb, leb}
use Rattle.slots.specs.Buffer.{Buffer}
use Rattle.store.specs.Machine.{Machine}
use Rattle.trace.specs.Commands.{commands_of}
use Rattle.trace.specs.Traces.{machine_after}
use Rattle.tracing.specs.Blocks.{RECORDS, BYTES, LAST, BlockGives}
use Rattle.tracing.specs.declared.Block.{Block}

-- A block of a trace: there are the bytes of full blocks before it, and it was run from the machine that these left, with the number of its
-- first record.
pub record Reached (m : Machine) (b : Block) (buffer-after : Buffer) (words-after input-after out-after : List ℕ) : Type 0 where
  pub before : List ℕ
  pub count : ℕ
  pub full : length before ≡ BYTES * count
  pub block : BlockGives (machine_after m (commands_of before)) (RECORDS * count) b buffer-after words-after input-after out-after

-- a block is followed by another: its lines could be written, it is full, and the record number is within the limit
unfoldable pub goes_on : Block → Bool
goes_on b = (b.written && eqb b.read BYTES) && leb b.number LAST

-- why no block follows one: it is not full, its lines could not be written, or the record number has passed the limit
abbrev pub EndsAt : Block → Type 0
EndsAt b = (b.read < BYTES) ⊎ ((b.written ≡ false) ⊎ (LAST < b.number))

-- What a trace promises of the block that it answers: it is one of the trace, and the last one for a reason. Which bytes stood in the blocks
-- before it, only a run shows.
pub record TraceGives (m : Machine) (b : Block) (buffer-after : Buffer) (words-after input-after out-after : List ℕ) : Type 0 where
  pub reached : Reached m b buffer-after words-after input-after out-after
  pub why : EndsAt b
