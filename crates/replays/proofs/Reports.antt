-- The totals of a report are sums over the events of which demand 3 speaks. Assumes nothing.
use Prim.Native.Nat.{ℕ, ◌<◌}
use mathlib.Core.Path.{◌≡◌, refl, sym, ap, ap₂, ◌∙◌}
use mathlib.Core.Bool.{true}
use mathlib.Core.List.{List, [], ◌∷◌}
use native.Mathlib.Omega.{arith}
use lib.ListN.{get_or, take, replicate}
use lib.IntN.{ℤ, pos, ◌+ℤ◌, +ℤ_idl}
use Rattle.slots.specs.Buffer.{Buffer, buffer_fits}
use Rattle.store.specs.Machine.{Machine}
use Rattle.sequence.specs.Systems.Moment.{Start}
use Rattle.trace.specs.Commands.{commands_of}
use Rattle.trace.specs.Traces.{start_machine}
use Rattle.trace.specs.declared.Command.{Command}
use Rattle.report.specs.Totals.{TOTALS, total_at, within, SERVED}
use Rattle.report.specs.Sums.{sum_of}
use Rattle.report.proofs.StartLaws.{zero-total}
use Rattle.report.proofs.SumLaws.{file-totals-are-sums}
use Rattle.report.proofs.LimitLaws.{file-fits-where-within}
use Rattle.replays.specs.Traces.{trace_system, record_events, trace_events}
use Rattle.replays.specs.Sums.{sum_over, addresses_over, fault_columns, together}
use Rattle.replays.specs.Reports.{file_total, trace_sum, SumsWithin, ReportsAreSums, ServedAreAddressesAndFaults}
use Rattle.replays.proofs.Traces.{started, records-hold}
use Rattle.replays.proofs.Service.{faults-counted}
use Rattle.replays.proofs.Sums.{sums-are}
use Rattle.replays.proofs.Parts.{served-parts}

module _ (lent : Buffer) (f : buffer_fits lent ≡ true) where
  record-sums : (cs : List Command) (id column : ℕ)
      → sum_of (start_machine lent) cs id column ≡ sum_over (trace_system lent) (record_events lent cs) id column
  unfolding record_events
  record-sums cs id column =
      ap (λ (m : Machine). sum_of m cs id column) (started lent f)
      ∙ sums-are (trace_system lent) Start cs id column (records-hold lent f cs)

  -- a total that begins with 0
  from_zero : (cs : List Command) (id column : ℕ)
      → get_or (replicate TOTALS (pos 0)) (total_at id column) (pos 0) +ℤ sum_of (start_machine lent) cs id column
      ≡ sum_over (trace_system lent) (record_events lent cs) id column
  from_zero cs id column =
      ap₂ ◌+ℤ◌ (zero-total TOTALS (total_at id column)) (record-sums cs id column)
      ∙ +ℤ_idl (sum_over (trace_system lent) (record_events lent cs) id column)

pub reports-are-sums : ReportsAreSums
unfolding file_total trace_sum trace_events SumsWithin
reports-are-sums lent input f = record {
  totals-are = λ id column l k fits. file-totals-are-sums lent input id column l k fits ∙ record-sums lent f (commands_of input) id column;
  within-fits = λ h. (file-fits-where-within lent input).1 (record {
    each = λ n id column l k. ap within (from_zero lent f (take n (commands_of input)) id column) ∙ h n id column l k;
  });
  fits-within = λ fits n id column l k.
      sym (ap within (from_zero lent f (take n (commands_of input)) id column))
      ∙ ((file-fits-where-within lent input).0 fits).each n id column l k;
}

-- totals that agree below column 14
abbrev Columns : List ℕ → Type 0
Columns [] = Unit {0}
Columns (c ∷ cs) = (c < 14) × Columns cs

together-same : (p q : ℕ → ℤ) → ((column : ℕ) → column < 14 → p column ≡ q column) → (cs : List ℕ) → Columns cs
    → together p cs ≡ together q cs
unfolding together
together-same p q e [] l = refl
together-same p q e (c ∷ cs) l = ap₂ ◌+ℤ◌ (e c l.0) (together-same p q e cs l.1)

ten-columns : Columns fault_columns
unfolding fault_columns
ten-columns = (
  omega arith,
  (
    omega arith,
    (
      omega arith,
      (
        omega arith,
        (
          omega arith,
          (
            omega arith,
            (
              omega arith,
              (
                omega arith,
                (
                  omega arith,
                  (omega arith, tt),
                ),
              ),
            ),
          ),
        ),
      ),
    ),
  ),
)

pub served-are-addresses-and-faults : ServedAreAddressesAndFaults
unfolding trace_sum trace_events
served-are-addresses-and-faults lent input f id = record {
  of-sums = parts;
  of-totals = λ l fits.
      let same : (column : ℕ) → column < 14 → file_total lent input id column ≡ trace_sum lent input id column =
      λ column k. (reports-are-sums lent input f).totals-are id column l k fits in
      same 0 (omega arith) ∙ parts
      ∙ ap (λ (z : ℤ). pos (addresses_over (trace_system lent) (trace_events lent input) id) +ℤ z)
      (sym (together-same (file_total lent input id) (trace_sum lent input id) same fault_columns ten-columns));
}
  where
    parts : trace_sum lent input id SERVED
        ≡ pos (addresses_over (trace_system lent) (trace_events lent input) id) +ℤ together (trace_sum lent input id) fault_columns
    parts =
        served-parts (trace_system lent) (trace_events lent input) id
        (faults-counted (trace_system lent) Start (trace_events lent input) (records-hold lent f (commands_of input)))
