-- The faults of walks count as 16 and 32, and all others as the exceptions that they are.
use Rattle.std.specs.Prelude.{ℕ, ◌+◌, ◌≤◌, ◌≡◌, true, [], ◌∷◌, pos}
use Rattle.registers.specs.declared.Outcome.TheVariants.{Fault}
use Rattle.page_table.specs.Faults.{walk_fault, fault_kind, PossibleFault}
use Rattle.page_table.specs.declared.Stop.{Stop}
use Rattle.page_table.specs.declared.Walk.{Walk}
use Rattle.page_table.specs.declared.Walk.TheVariants.{Absent, Broken}
use Rattle.report.specs.Totals.{SERVED, LOADS}
use Rattle.report.specs.Gains.{gain, has_column, access_gains}

-- the least value of a fault that has a column
abbrev pub least_counted : ℕ
least_counted = 1

-- "still counts them as 16 and 32", wherever the walk stopped: column 10 counts the absent ones, 11 the broken ones, and value + 1 the
-- exceptions 1 to 8
pub record CountedByKind (loads : ℕ) : Type 0 where
  pub absent : (s : Stop)
      → access_gains (Fault (walk_fault (Absent s))) loads ≡ gain SERVED (pos 1) ∷ gain LOADS (pos loads) ∷ gain 10 (pos 1) ∷ []
  pub broken : (s : Stop)
      → access_gains (Fault (walk_fault (Broken s))) loads ≡ gain SERVED (pos 1) ∷ gain LOADS (pos loads) ∷ gain 11 (pos 1) ∷ []
  pub exception : (value : ℕ) → 1 ≤ value → value ≤ 8
      → access_gains (Fault value) loads ≡ gain SERVED (pos 1) ∷ gain LOADS (pos loads) ∷ gain (value + 1) (pos 1) ∷ []
  -- so every fault that an access can have is counted in one column, but for 0
  pub possible : (found : Walk) (value : ℕ) → PossibleFault least_counted found value → has_column (fault_kind value) ≡ true
