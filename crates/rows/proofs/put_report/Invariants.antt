use mathlib.Core.Path.{◌≡◌}
use Rattle.rows.specs.Rows.{rows_of}
use Rattle.rows.proofs.RowLaws.{Growing}
use Rattle.rows.proofs.put_report.Given as goal

abbrev pub invariant-loop-id : goal.invariant-loop-id
invariant-loop-id l =
    Growing l.initial.text.bytes.now 0 (λ n. rows_of l.number n l.totals) 318 63 l.text.bytes.now l.text.length l.id
    × (l.text.bytes.ghost_name ≡ l.initial.text.bytes.ghost_name)
