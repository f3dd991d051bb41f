-- A run of records: the lines one after the other, and the machine at the end.
use Rattle.std.specs.Prelude.{ℕ, suc, ◌+◌, ◌*◌, ◌≡◌, List, [], ◌∷◌, ◌++◌, length, replicate}
use Rattle.registers.specs.Fields.{zero_registers}
use Rattle.slots.specs.Buffer.{Buffer}
use Rattle.slots.specs.Start.{start_buffer}
use Rattle.store.specs.Machine.{Machine}
use Rattle.trace.specs.Commands.{commands_of}
use Rattle.trace.specs.Steps.{step_reply, machine_after_step}
use Rattle.line.specs.Text.{overwritten}
use Rattle.line.specs.Lines.{line_of}
use Rattle.trace.specs.declared.Command.{Command}
use Rattle.trace.specs.declared.Ran.{Ran}

-- the lines of some commands, from a machine and a record number on. "Nothing stops at a refusal."
unfoldable pub lines_of : Machine → (number : ℕ) → List Command → List ℕ
lines_of m number [] = []
lines_of m number (c ∷ cs) = line_of number (step_reply m c) ++ lines_of (machine_after_step m c) (suc number) cs

unfoldable pub machine_after : Machine → List Command → Machine
machine_after m [] = m
machine_after m (c ∷ cs) = machine_after (machine_after_step m c) cs

-- "Table memory is 16,384 words, all zero at first"
abbrev pub WORDS : ℕ
WORDS = 16384

-- the start state
unfoldable pub start_machine : Buffer → Machine
start_machine lent = record { registers = zero_registers; buffer = start_buffer lent; words = replicate WORDS 0 }

-- what the program prints for an input; the lent buffer's numbers at first do not matter
unfoldable pub trace_text : (lent : Buffer) (input : List ℕ) → List ℕ
trace_text lent input = lines_of (start_machine lent) 0 (commands_of input)

-- Reading in blocks gives the lines of the whole input: where a first stretch is whole records, the lines of both are its lines and then
-- those of the rest, from the machine that it left and with the next record number; and so is the machine at the end.
abbrev pub InBlocks : Type 0
InBlocks = (m : Machine) (number n : ℕ) (xs ys : List ℕ) → length xs ≡ 8 * n →
    (lines_of m number (commands_of (xs ++ ys))
    ≡ lines_of m number (commands_of xs) ++ lines_of (machine_after m (commands_of xs)) (number + n) (commands_of ys))
    × (machine_after m (commands_of (xs ++ ys)) ≡ machine_after (machine_after m (commands_of xs)) (commands_of ys))

-- What a run over an input promises: the lines stand at the front of the output, and the rest of it is as it was; registers and runs are
-- those after the last record.
pub record RunGives (m : Machine) (number : ℕ) (input out : List ℕ) (ran : Ran) (buffer-after : Buffer) (words-after out-after : List ℕ)
    : Type 0 where
  pub length-is : ran.length ≡ length (lines_of m number (commands_of input))
  pub lines_are : out-after ≡ overwritten out 0 (lines_of m number (commands_of input))
  pub machine-is : record { registers = ran.registers; buffer = buffer-after; words = words-after } ≡ machine_after m (commands_of input)
