-- The totals as sums over the records: the totals of a replay are those sums, and it stops where one of them passes the limit.
use Rattle.std.specs.Prelude.{ℕ, ◌≤◌, ◌<◌, ◌≡◌, true, cond, List, [], ◌∷◌, length, get_or, take, replicate, eqb, ℤ, pos, ◌+ℤ◌}
use Rattle.slots.specs.Buffer.{Buffer}
use Rattle.store.specs.Machine.{Machine}
use Rattle.trace.specs.Commands.{commands_of}
use Rattle.trace.specs.Steps.{machine_after_step}
use Rattle.trace.specs.Traces.{start_machine}
use Rattle.trace.specs.declared.Command.{Command}
use Rattle.report.specs.Totals.{TOTALS, Gain, total_at, within, AllWithin}
use Rattle.report.specs.Gains.{gains_of}
use Rattle.report.specs.Tallies.{tally_of, file_tally}

-- the sum of the amounts for a column
unfoldable pub amount_in : (column : ℕ) → List Gain → ℤ
amount_in column [] = pos 0
amount_in column (g ∷ gs) = cond (eqb g.column column) g.amount (pos 0) +ℤ amount_in column gs

-- what a record adds to a total: its gains in that column, where the context of that moment is the identification
unfoldable pub added : Machine → Command → (id column : ℕ) → ℤ
added m c id column = cond (eqb m.registers.context id) (amount_in column (gains_of m c)) (pos 0)

-- the sum of what some records add, each from the machine that the ones before it left
unfoldable pub sum_of : Machine → List Command → (id column : ℕ) → ℤ
sum_of m [] id column = pos 0
sum_of m (c ∷ cs) id column = added m c id column +ℤ sum_of (machine_after_step m c) cs id column

-- Where no total passed the limit, each of the fourteen totals of identifications 0 to 62 is what it was before plus that sum.
abbrev pub TotalsAreSums : Type 0
TotalsAreSums = (m : Machine) (totals : List ℤ) (cs : List Command) (id column : ℕ) → id ≤ 62 → column < 14 → length totals ≡ TOTALS →
    (tally_of m totals cs).fits ≡ true →
    get_or (tally_of m totals cs).totals (total_at id column) (pos 0)
    ≡ get_or totals (total_at id column) (pos 0) +ℤ sum_of m cs id column

-- "Totals equal those defined from the accepted records": a file's totals are the sums over its records, from the start state and zero
-- tables.
abbrev pub FileTotalsAreSums : Type 0
FileTotalsAreSums = (lent : Buffer) (input : List ℕ) (id column : ℕ) → id ≤ 62 → column < 14 → (file_tally lent input).fits ≡ true →
    get_or (file_tally lent input).totals (total_at id column) (pos 0) ≡ sum_of (start_machine lent) (commands_of input) id column

-- after each number of the records, 0 among them, every total is within the limit
pub record StaysWithin (m : Machine) (totals : List ℤ) (cs : List Command) : Type 0 where
  pub each : (n id column : ℕ) → id ≤ 62 → column < 14
      → within (get_or totals (total_at id column) (pos 0) +ℤ sum_of m (take n cs) id column) ≡ true

-- "a total past 4,294,967,295 either way stops that file": the tally fits exactly where no total is past the limit after any record.
abbrev pub FitsWhereWithin : Type 0
FitsWhereWithin = (m : Machine) (totals : List ℤ) (cs : List Command) → length totals ≡ TOTALS → AllWithin totals →
    ((tally_of m totals cs).fits ≡ true → StaysWithin m totals cs) × (StaysWithin m totals cs → (tally_of m totals cs).fits ≡ true)

-- the same of a file: it is not stopped exactly where every sum over its first records is within the limit
abbrev pub FileFitsWhereWithin : Type 0
FileFitsWhereWithin = (lent : Buffer) (input : List ℕ) →
    ((file_tally lent input).fits ≡ true → StaysWithin (start_machine lent) (replicate TOTALS (pos 0)) (commands_of input))
    × (StaysWithin (start_machine lent) (replicate TOTALS (pos 0)) (commands_of input) → (file_tally lent input).fits ≡ true)
