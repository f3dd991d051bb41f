-- A block of a trace's input.
use Rattle.std.specs.Prelude.{ℕ, ◌+◌, ◌*◌, ◌≤◌, ◌≡◌, List, length, take}
use Rattle.slots.specs.Buffer.{Buffer}
use Rattle.store.specs.Machine.{Machine}
use Rattle.line.specs.Text.{Begins}
use Rattle.trace.specs.Commands.{commands_of}
use Rattle.trace.specs.Traces.{lines_of, machine_after}
use Rattle.tracing.specs.declared.Block.{Block}

-- a full block's records and bytes: a record has 8
abbrev pub RECORDS : ℕ
RECORDS = 1024

abbrev pub BYTES : ℕ
BYTES = 8 * RECORDS

-- no block begins behind this record number
abbrev pub LAST : ℕ
LAST = 18446744073709500000

-- the run that a block is read into, and one with room for its lines, of at most 49 bytes each
abbrev pub LinesFit : (input out : List ℕ) → Type 0
LinesFit input out = (length input ≡ BYTES) × (length out ≡ 49 * RECORDS)

-- What a block promises: registers, runs and the next record's number are those after the records of the bytes that were read, from the
-- machine and the number that it was handed; the output begins with these records' lines, and the answer has their length. Which bytes a
-- read gave, and whether the lines reached standard output, only a run shows. Of the output behind the lines and of the run behind the bytes
-- that were read nothing is promised.
pub record BlockGives (m : Machine) (number : ℕ) (b : Block) (buffer-after : Buffer) (words-after input-after out-after : List ℕ) : Type 0
  where
    pub read_fits : b.read ≤ BYTES
    pub machine-is : record { registers = b.registers; buffer = buffer-after; words = words-after }
        ≡ machine_after m (commands_of (take b.read input-after))
    pub number_is : b.number ≡ number + length (commands_of (take b.read input-after))
    pub lines_are : Begins out-after b.length (lines_of m number (commands_of (take b.read input-after)))
