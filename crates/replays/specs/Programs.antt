-- What the programs' loops promise, said of the whole input and by plain numbers: a trace is a sequence of which demand 3 speaks, and a
-- file's totals are sums over one.
use Rattle.std.specs.Prelude.{ℕ, ◌+◌, ◌*◌, ◌<◌, ◌≡◌, true, false, List, ◌++◌, ◌⊎◌, length, take}
use Rattle.slots.specs.Buffer.{Buffer, buffer_fits}
use Rattle.sequence.specs.Moments.{system_after_all}
use Rattle.line.specs.Text.{Begins}
use Rattle.rows.specs.Rows.{report_of, refused_text, unread_text}
use Rattle.trace.specs.Commands.{commands_of}
use Rattle.trace.specs.Traces.{start_machine, trace_text}
use Rattle.tracing.specs.Traces.{TraceGives}
use Rattle.tracing.specs.declared.Block.{Block}
use Rattle.report.specs.Tallies.{Tally, file_tally}
use Rattle.streams.specs.declared.Stop.TheVariants.{Ended, Failed}
use Rattle.reporting.specs.Reports.{FileGives}
use Rattle.reporting.specs.declared.Filed.{Filed}
use Rattle.replays.specs.Traces.{trace_system, trace_events, TraceIsSequence}
use Rattle.replays.specs.Reports.{ReportIsSums}

-- A trace that ended with a block: full blocks of 8,192 bytes and what was read into that one are an input; registers, runs and the next
-- record's number are those after its records; the output begins with the end of its text, behind that of the blocks before; and no block
-- follows since that one is not full, its lines could not be written, or the record number has passed the limit.
pub record TracedIsSequence (lent : Buffer) (b : Block) (buffer-after : Buffer) (words-after input-after out-after : List ℕ) : Type 0 where
  pub before : List ℕ
  pub count : ℕ
  pub full : length before ≡ 8192 * count
  pub sequence : TraceIsSequence lent (before ++ take b.read input-after)
  pub machine-is : record { registers = b.registers; buffer = buffer-after; words = words-after }
      ≡ (system_after_all (trace_system lent) (trace_events lent (before ++ take b.read input-after))).machine
  pub number_is : b.number ≡ length (commands_of (before ++ take b.read input-after))
  pub text-is : trace_text lent (before ++ take b.read input-after) ≡ trace_text lent before ++ take b.length out-after
  pub why : (b.read < 8192) ⊎ ((b.written ≡ false) ⊎ (18446744073709500000 < b.number))

-- so of every trace that the trace program runs
abbrev pub TracedAreSequences : Type 0
TracedAreSequences = (lent : Buffer) (b : Block) (buffer-after : Buffer) (words-after input-after out-after : List ℕ) → buffer_fits lent ≡ true
    → TraceGives (start_machine lent) b buffer-after words-after input-after out-after
    → TracedIsSequence lent b buffer-after words-after input-after out-after

-- the tally of a file's blocks before the last, and of what was read into that one
unfoldable pub whole_tally : (lent : Buffer) (before : List ℕ) (f : Filed) (input-after : List ℕ) → Tally
whole_tally lent before f input-after = file_tally lent (before ++ take f.replayed.last.filled.length input-after)

-- A file that was opened: full blocks of 65,536 bytes, as many as were counted but one, and what was read into the last one are an input,
-- and its totals are such sums. Its lines are one of three: refused where a total passed the limit, unread where a read failed, else
-- the totals; and these only where the file ended before the last block was full, or 18,446,744,073,709,551,615 blocks were counted.
pub record ReportedIsSums (number : ℕ) (f : Filed) (input-after out-after : List ℕ) : Type 0 where
  pub lent : Buffer
  pub before : List ℕ
  pub count : ℕ
  pub full : length before ≡ 65536 * count
  pub blocks-are : f.replayed.blocks ≡ count + 1
  pub sums : ReportIsSums lent (before ++ take f.replayed.last.filled.length input-after)
  pub refused : (whole_tally lent before f input-after).fits ≡ false → Begins out-after f.length (refused_text number)
  pub unread : (whole_tally lent before f input-after).fits ≡ true → f.replayed.last.filled.stop ≡ Failed
      → Begins out-after f.length (unread_text number)
  pub whole : (whole_tally lent before f input-after).fits ≡ true → (f.replayed.last.filled.stop ≡ Failed → ⊥)
      → Begins out-after f.length (report_of number (whole_tally lent before f input-after).totals)
      × (((f.replayed.last.filled.length < 65536) × (f.replayed.last.filled.stop ≡ Ended)) ⊎ (f.replayed.blocks ≡ 18446744073709551615))

-- so of every file that the report program opens
abbrev pub ReportedAreSums : Type 0
ReportedAreSums = (number : ℕ) (f : Filed) (words-after input-after out-after : List ℕ)
    → FileGives number f words-after input-after out-after → ReportedIsSums number f input-after out-after
