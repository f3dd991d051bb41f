-- What a trace takes from its reader and puts into its writer, where these say which bytes they have.
use Rattle.std.specs.Prelude.{ℕ, ◌*◌, ◌≡◌, true, List, ◌++◌, length, take}
use Rattle.std.specs.Io.KnownBytes.{Appends, Consumes}
use Rattle.std.specs.declared.option.Option.{Option}
use Rattle.slots.specs.Buffer.{Buffer}
use Rattle.store.specs.Machine.{Machine}
use Rattle.trace.specs.Commands.{commands_of}
use Rattle.trace.specs.Traces.{lines_of, machine_after}
use Rattle.tracing.specs.Blocks.{BYTES}
use Rattle.tracing.specs.declared.Block.{Block}

-- Full blocks and what was read into this one are the bytes that were taken from the reader. Registers, runs and the next record's number
-- are those after them; and where the block's lines could be written, the lines of all of them were put behind what the writer held.
pub record TraceMoves (m : Machine) (b : Block) (buffer-after : Buffer) (words-after input-after : List ℕ)
    (given left held holds : Option (List ℕ)) : Type 0 where
  pub before : List ℕ
  pub count : ℕ
  pub full : length before ≡ BYTES * count
  pub taken : Consumes given left (before ++ take b.read input-after)
  pub machine-is : record { registers = b.registers; buffer = buffer-after; words = words-after }
      ≡ machine_after m (commands_of (before ++ take b.read input-after))
  pub number_is : b.number ≡ length (commands_of (before ++ take b.read input-after))
  pub put : b.written ≡ true → Appends held holds (lines_of m 0 (commands_of (before ++ take b.read input-after)))
