-- The lines of a file, and the files that the arguments name.
use Rattle.std.specs.Prelude.{ℕ, ◌+◌, ◌≤◌, ◌≡◌, true, List, ◌⊎◌, is_ok, length, replicate, pos}
use Rattle.slots.specs.Buffer.{Buffer, buffer_fits}
use Rattle.line.specs.Text.{Begins}
use Rattle.rows.specs.Rows.{unread_text}
use Rattle.trace.specs.Traces.{WORDS, start_machine}
use Rattle.report.specs.Totals.{TOTALS}
use Rattle.report.specs.declared.Replay.{Replay}
use Rattle.reporting.specs.Blocks.{BYTES}
use Rattle.reporting.specs.Replays.{ReplayGives}
use Rattle.reporting.specs.Endings.{ending_of, ending_text}
use Rattle.reporting.specs.declared.Filed.{Filed}
use Rattle.reporting.specs.declared.Reported.{Reported}

-- room for a file's lines: 63 of at most 318 bytes
abbrev pub ROOM : ℕ
ROOM = 20480

-- the runs that are lent to a report: the tables, a run that a block is read into, and one with room for a file's lines
abbrev pub ReportFits : (words input out : List ℕ) → Type 0
ReportFits words input out = (length words ≡ WORDS) × (length input ≡ BYTES) × (length out ≡ ROOM)

-- "each from the start state and zero tables": an open file was replayed so, whatever was lent, and the output begins with the lines of
-- how it ended
pub record FileGives (number : ℕ) (f : Filed) (words-after input-after out-after : List ℕ) : Type 0 where
  pub lent : Buffer
  pub lent_fits : buffer_fits lent ≡ true
  pub after : Replay
  pub words_are : words-after ≡ after.words.now
  pub replay : ReplayGives (start_machine lent) (replicate TOTALS (pos 0)) f.replayed after input-after
  pub lines : Begins out-after f.length
      (ending_text number after.totals.now (ending_of (is_ok f.replayed.last.counted) f.replayed.last.filled.stop))

-- one that can't be opened is unread, and has no block
pub record FileUnopened (number : ℕ) (f : Filed) (out-after : List ℕ) : Type 0 where
  pub no_block : f.replayed.blocks ≡ 0
  pub lines : Begins out-after f.length (unread_text number)

unfoldable pub FilePut : (number : ℕ) (f : Filed) (words-after input-after out-after : List ℕ) → Type 0
FilePut number f words-after input-after out-after =
    FileUnopened number f out-after ⊎ FileGives number f words-after input-after out-after

-- no argument names a file: nothing is put
pub record NoFile (count : ℕ) (r : Reported) : Type 0 where
  pub none_named : count ≤ 1
  pub next-is : r.next ≡ 1
  pub no_lines : r.file.length ≡ 0

-- the file of the argument before the next one: argument 1 names file 0
pub record LastFile (count next : ℕ) (f : Filed) (words-after input-after out-after : List ℕ) : Type 0 where
  pub file : ℕ
  pub next-is : next ≡ file + 2
  pub named : next ≤ count
  pub put : FilePut file f words-after input-after out-after

-- What the report over so many arguments promises: the output begins with the lines of the last file, if there is one; and where these
-- could be written, no argument is left. Which file an argument names, that each one before the last had its lines too, and that the lines
-- reached standard output, only a run shows. Of the path, of the output behind the lines and of the run behind the bytes that were read
-- nothing is promised.
pub record ReportGives (count : ℕ) (r : Reported) (words-after input-after out-after : List ℕ) : Type 0 where
  pub last-file : NoFile count r ⊎ LastFile count r.next r.file words-after input-after out-after
  pub none_left : r.written ≡ true → count ≤ r.next
