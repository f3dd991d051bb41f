-- The totals of a report are sums over the events of which demand 3 speaks; and served accesses are those with an address and the faults.
use Rattle.std.specs.Prelude.{ℕ, ◌≤◌, ◌<◌, ◌≡◌, true, List, get_or, take, ℤ, pos, ◌+ℤ◌}
use Rattle.slots.specs.Buffer.{Buffer, buffer_fits}
use Rattle.trace.specs.Commands.{commands_of}
use Rattle.report.specs.Totals.{total_at, within, SERVED}
use Rattle.report.specs.Tallies.{file_tally}
use Rattle.replays.specs.Traces.{trace_system, record_events, trace_events}
use Rattle.replays.specs.Sums.{sum_over, addresses_over, fault_columns, together}

-- a total of a file
unfoldable pub file_total : (lent : Buffer) (input : List ℕ) (id column : ℕ) → ℤ
file_total lent input id column = get_or (file_tally lent input).totals (total_at id column) (pos 0)

-- the same of the sequence's events
unfoldable pub trace_sum : (lent : Buffer) (input : List ℕ) (id column : ℕ) → ℤ
trace_sum lent input id column = sum_over (trace_system lent) (trace_events lent input) id column

-- after each number of the records, 0 among them, every sum over their events is within the limit
unfoldable pub SumsWithin : (lent : Buffer) (input : List ℕ) → Type 0
SumsWithin lent input = (n id column : ℕ) → id ≤ 62 → column < 14
    → within (sum_over (trace_system lent) (record_events lent (take n (commands_of input))) id column) ≡ true

pub record ReportIsSums (lent : Buffer) (input : List ℕ) : Type 0 where
  pub totals-are : (id column : ℕ) → id ≤ 62 → column < 14 → (file_tally lent input).fits ≡ true
      → file_total lent input id column ≡ trace_sum lent input id column
  -- a file is stopped exactly where such a sum passes the limit
  pub within-fits : SumsWithin lent input → (file_tally lent input).fits ≡ true
  pub fits-within : (file_tally lent input).fits ≡ true → SumsWithin lent input

-- so of every file
abbrev pub ReportsAreSums : Type 0
ReportsAreSums = (lent : Buffer) (input : List ℕ) → buffer_fits lent ≡ true → ReportIsSums lent input

-- Under each identification every served access got an address or a fault of a kind that has a column.
pub record ServedIsParts (lent : Buffer) (input : List ℕ) (id : ℕ) : Type 0 where
  pub of-sums : trace_sum lent input id SERVED
      ≡ pos (addresses_over (trace_system lent) (trace_events lent input) id) +ℤ together (trace_sum lent input id) fault_columns
  pub of-totals : id ≤ 62 → (file_tally lent input).fits ≡ true
      → file_total lent input id SERVED
      ≡ pos (addresses_over (trace_system lent) (trace_events lent input) id) +ℤ together (file_total lent input id) fault_columns

abbrev pub ServedAreAddressesAndFaults : Type 0
ServedAreAddressesAndFaults = (lent : Buffer) (input : List ℕ) → buffer_fits lent ≡ true → (id : ℕ) → ServedIsParts lent input id
