-- The fault values of served accesses.
use Rattle.std.specs.Prelude.{ℕ, ◌≤◌, ◌≡◌, true, false}
use Rattle.registers.specs.declared.Access.{Access}
use Rattle.registers.specs.declared.Outcome.{Outcome}
use Rattle.registers.specs.declared.Outcome.TheVariants.{At, Fault, Done, Refused}
use Rattle.page_table.specs.Faults.{PossibleFault}
use Rattle.page_table.specs.declared.Walk.{Walk}
use Rattle.page_table.specs.declared.Walk.TheVariants.{Leaf, Absent, Broken}
use Rattle.store.specs.Machine.{Machine}
use Rattle.mmu.specs.ServedAccess.{missed, first_try, walk_for, served_refusal, served_reply}

-- an outcome is a fault, of a value of which this is so
unfoldable pub IsFault : (P : (value : ℕ) → Type 0) → Outcome → Type 0
IsFault P (At address) = ⊥
IsFault P (Fault value) = P value
IsFault P (Done emptied) = ⊥
IsFault P (Refused number) = ⊥

-- or it is no fault
unfoldable pub IfFault : (P : (value : ℕ) → Type 0) → Outcome → Type 0
IfFault P (At address) = Unit {0}
IfFault P (Fault value) = P value
IfFault P (Done emptied) = Unit {0}
IfFault P (Refused number) = Unit {0}

-- A walk decides an access: with a leaf its fault, if it has one, is an exception's, from `least` to 8; without a leaf it is a fault of
-- the walk's own value, which is one of the seven.
unfoldable pub DecidedBy : (least : ℕ) (found : Walk) → Outcome → Type 0
DecidedBy least (Leaf f) outcome = IfFault (PossibleFault least (Leaf f)) outcome
DecidedBy least (Absent s) outcome = IsFault (PossibleFault least (Absent s)) outcome
DecidedBy least (Broken s) outcome = IsFault (PossibleFault least (Broken s)) outcome

-- Where its first try missed, an access is decided by its walk; else its fault, if it has one, is the try's, 7 at most. Among these is 0,
-- of multiple hits.
pub record ServedFault (m : Machine) (a : Access) (outcome : Outcome) : Type 0 where
  pub on-miss : missed (first_try m a) ≡ true → DecidedBy 0 (walk_for m a) outcome
  pub no-miss : missed (first_try m a) ≡ false → IfFault (λ value. value ≤ 7) outcome

-- so of every accepted access, whatever it is handed
abbrev pub ServedFaults : Type 0
ServedFaults = (m : Machine) (a : Access) → served_refusal m a ≡ 0 → ServedFault m a (served_reply m a).outcome
