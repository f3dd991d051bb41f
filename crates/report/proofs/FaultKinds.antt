-- The faults of walks count as 16 and 32, and all others as the exceptions that they are. Assumes nothing.
use Prim.Native.Nat.{ℕ, ◌+◌, ◌≤◌}
use mathlib.Core.Path.{◌≡◌, refl, ap, ◌∙◌}
use mathlib.Core.Bool.{true}
use mathlib.Core.List.{List, [], ◌∷◌}
use native.Mathlib.Omega.{arith}
use lib.IntN.{pos}
use borrow.Author.Tests.{le-leb}
use Rattle.registers.specs.declared.Outcome.TheVariants.{Fault}
use Rattle.page_table.specs.Faults.{walk_fault, fault_kind, PossibleFault}
use Rattle.page_table.specs.declared.Walk.{Walk}
use Rattle.page_table.specs.declared.Walk.TheVariants.{Leaf, Absent, Broken}
use Rattle.page_table.proofs.FaultLaws.{kind-told}
use Rattle.report.specs.Totals.{Gain, SERVED, LOADS}
use Rattle.report.specs.Gains.{gain, has_column, fault_column, fault_gains, access_gains}
use Rattle.report.specs.FaultKinds.{least_counted, CountedByKind}

-- the gains of a kind that has a column
column-gains : (kind column : ℕ) → has_column kind ≡ true → fault_column kind ≡ column → fault_gains kind ≡ gain column (pos 1) ∷ []
unfolding fault_gains
column-gains kind column h c = rw (h, c)

kind-gains : (loads value kind column : ℕ) → fault_kind value ≡ kind → has_column kind ≡ true → fault_column kind ≡ column
    → access_gains (Fault value) loads ≡ gain SERVED (pos 1) ∷ gain LOADS (pos loads) ∷ gain column (pos 1) ∷ []
unfolding access_gains
kind-gains loads value kind column k h c =
    ap (λ (gains : List Gain). gain SERVED (pos 1) ∷ gain LOADS (pos loads) ∷ gains) (ap fault_gains k ∙ column-gains kind column h c)

low_column : (kind : ℕ) → 1 ≤ kind → kind ≤ 8 → has_column kind ≡ true
unfolding has_column
low_column kind low high = rw (le-leb 1 kind low, le-leb kind 8 high)

has_one : (found : Walk) (value : ℕ) → PossibleFault least_counted found value → has_column (fault_kind value) ≡ true
unfolding PossibleFault walk_fault has_column fault_kind
has_one (Leaf f) value p =
    let k : fault_kind value ≡ value = omega (arith, p.1) in
    ap has_column k ∙ low_column value p.0 p.1
has_one (Absent s) value p = ap has_column (ap fault_kind p.0 ∙ kind-told 16 s (omega arith))
has_one (Broken s) value p = ap has_column (ap fault_kind p.0 ∙ kind-told 32 s (omega arith))

pub counted-by-kind : (loads : ℕ) → CountedByKind loads
unfolding walk_fault has_column fault_column fault_kind
counted-by-kind loads = record {
  absent = λ s. kind-gains loads _ 16 10 (kind-told 16 s (omega arith)) refl refl;
  broken = λ s. kind-gains loads _ 32 11 (kind-told 32 s (omega arith)) refl refl;
  exception =
      λ value low high.
      kind-gains loads value value (value + 1) (omega arith) (low_column value low high) (rw (le-leb value 8 high));
  possible = has_one;
}
