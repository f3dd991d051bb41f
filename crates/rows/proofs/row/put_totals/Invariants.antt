use mathlib.Core.Path.{◌≡◌}
use Rattle.rows.specs.Rows.{totals_text}
use Rattle.rows.proofs.RowLaws.{Growing}
use Rattle.rows.proofs.row.put_totals.Given as goal

abbrev pub invariant-loop-total : goal.invariant-loop-total
invariant-loop-total l =
    Growing l.initial.text.bytes.now l.initial.text.length (totals_text l.totals l.from) 21 14 l.text.bytes.now l.text.length l.total-index
    × (l.text.bytes.ghost_name ≡ l.initial.text.bytes.ghost_name)
