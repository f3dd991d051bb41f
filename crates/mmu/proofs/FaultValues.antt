-- The fault values of served accesses. Assumes nothing.
use Prim.Native.Nat.{ℕ, ◌≤◌}
use mathlib.Core.Path.{◌≡◌, refl, sym, subst}
use mathlib.Core.Bool.{Bool, true, false, cond}
use native.Mathlib.Omega.{arith}
use borrow.Author.Tests.{eqb-false, eq-eqb}
use Rattle.std.specs.Prelude.{Option, Some, None}
use Rattle.runs.proofs.Bools.{clash}
use Rattle.registers.specs.Refusals.{by_refusal}
use Rattle.registers.specs.Replies.{refused}
use Rattle.registers.specs.declared.Access.{Access}
use Rattle.registers.specs.declared.Outcome.TheVariants.{Fault}
use Rattle.registers.specs.declared.Registers.{Registers}
use Rattle.page_table.specs.Faults.{walk_fault, ToldByFault, PossibleFault}
use Rattle.page_table.proofs.FaultLaws.{walk-told}
use Rattle.page_table.specs.declared.Stop.{Stop}
use Rattle.page_table.specs.declared.Walk.{Walk}
use Rattle.page_table.specs.declared.Walk.TheVariants.{Leaf, Absent, Broken}
use Rattle.slots.specs.Buffer.{Buffer}
use Rattle.access.specs.declared.Translation.{Translation}
use Rattle.access.proofs.Values.{translate-value-le}
use Rattle.store.specs.Machine.{Machine}
use Rattle.mmu.specs.ServedAccess.{outcome_of, tried_reply, missed, after_miss, first_try, walk_for, access_reply, served_refusal}
use Rattle.mmu.specs.ServedAccess.{served_reply}
use Rattle.mmu.specs.FaultValues.{IsFault, IfFault, DecidedBy, ServedFault, ServedFaults}

-- a walk that found no leaf gives its own value
pub absent-decides : (least : ℕ) (s : Stop) → ToldByFault (Absent s) → DecidedBy least (Absent s) (Fault (walk_fault (Absent s)))
unfolding DecidedBy IsFault PossibleFault ToldByFault
absent-decides least s told = (refl, told.1)

pub broken-decides : (least : ℕ) (s : Stop) → ToldByFault (Broken s) → DecidedBy least (Broken s) (Fault (walk_fault (Broken s)))
unfolding DecidedBy IsFault PossibleFault ToldByFault
broken-decides least s told = (refl, told.1)

-- a try gives its exception's
tried : (P : ℕ → Type 0) (t : Translation) (loads : ℕ) → P t.value → IfFault P (tried_reply t loads).outcome
unfolding IfFault tried_reply outcome_of
tried P t loads p = by-physical t.physical
  where
    by-physical : (physical : Option ℕ) → IfFault P (outcome_of physical t.value)
    by-physical (Some address) = tt
    by-physical None = p

miss-decided : (found : Walk) (r : Registers) (b : Buffer) (a : Access) → ToldByFault found
    → DecidedBy 0 found (after_miss found r b a).outcome
unfolding after_miss DecidedBy PossibleFault
miss-decided (Leaf f) r b a told = tried (λ (value : ℕ). (0 ≤ value) × (value ≤ 8)) _ 1 (omega arith, translate-value-le _ _ a)
miss-decided (Absent s) r b a told = absent-decides 0 s told
miss-decided (Broken s) r b a told = broken-decides 0 s told

-- a try that did not miss
stands-low : (m : Machine) (a : Access) → missed (first_try m a) ≡ false → (first_try m a).value ≤ 7
unfolding missed first_try
stands-low m a hit =
    let other = eqb-false (first_try m a).value 8 hit in
    let low = translate-value-le m.registers m.buffer a in
    omega arith

pub access-fault : (m : Machine) (a : Access) → ServedFault m a (access_reply m a).outcome
unfolding access_reply walk_for
access-fault m a = by-try (missed (first_try m a)) refl
  where
    by-try : (t : Bool) → missed (first_try m a) ≡ t
        → ServedFault m a (cond t (after_miss (walk_for m a) (first_try m a).registers m.buffer a)
        (tried_reply (first_try m a) 0)).outcome
    by-try true miss = record {
      on-miss = λ y. miss-decided (walk_for m a) (first_try m a).registers m.buffer a (walk-told m.words _ _);
      no-miss = λ hit. absurd (clash miss hit);
    }
    by-try false hit = record {
      on-miss = λ miss. absurd (clash miss hit);
      no-miss = λ y. tried _ (first_try m a) 0 (stands-low m a hit);
    }

pub served-faults : ServedFaults
unfolding served_reply by_refusal
served-faults m a accepted =
    subst (λ (t : Bool). ServedFault m a (cond t (access_reply m a) (refused m.registers (served_refusal m a))).outcome)
    (sym (eq-eqb (served_refusal m a) 0 accepted)) (access-fault m a)
