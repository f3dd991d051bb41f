-- What a host reads off the answer of a served access that faulted. Assumes nothing.
use Prim.Native.Nat.{ℕ, ◌+◌, ◌*◌, ◌/◌, ◌%◌, ◌<◌}
use mathlib.Core.Path.{◌≡◌, ap, sym, subst}
use mathlib.Core.Bool.{Bool, true, cond}
use native.Mathlib.Omega.{arith}
use lib.Dec.{eqb}
use borrow.Author.Tests.{eq-eqb, ne_eqb, ltb-true}
use Rattle.registers.specs.Refusals.{by_refusal}
use Rattle.registers.specs.declared.Outcome.{Outcome}
use Rattle.registers.specs.declared.Outcome.TheVariants.{At, Fault, Done, Refused}
use Rattle.page_table.specs.Faults.{fault_kind, fault_level, fault_global}
use Rattle.mmu.specs.ServedAccess.{access_reply}
use Rattle.mmu.specs.FaultValues.{IfFault}
use Rattle.mmu.proofs.FaultValues.{access-fault}
use Rattle.mmu_c.specs.Answers.{refusal_answer, access_answer, outcome_answer, reply_answer, outcome_fits}
use Rattle.mmu_c.specs.Runs.{machine_of}
use Rattle.mmu_c.specs.ServedAccess.{served_refusal, served_reply, served_number}
use Rattle.mmu_c.specs.FaultAnswers.{FaultRead, FaultsRead}
use Rattle.mmu_c.proofs.ServedLaws.{access-fits}

-- the answer's fields above the value
loads-of : (above loads : ℕ) → above ≡ loads + 64 → loads < 16 → above % 16 ≡ loads
loads-of above loads q l = omega arith

even : (above half : ℕ) → above ≡ 2 * half → above % 2 ≡ 1 → ⊥
even above half q e = omega arith

odd : (above : ℕ) → above ≡ 1 → above % 2 ≡ 1
odd above q = omega arith

module _ (value loads n : ℕ) (v : value < 65536) (l : loads < 16)
    (q : n ≡ value * 4294967296 + loads * 281474976710656 + 18014398509481984) where
  from-48 : n / 281474976710656 ≡ loads + 64
  from-48 = omega arith

  from-52 : n / 4503599627370496 ≡ 4
  from-52 = omega arith

  from-54 : n / 18014398509481984 ≡ 1
  from-54 = omega arith

  tree : n / 17592186044416 % 2 ≡ value / 4096 % 2
  tree = omega arith

  from-53 : n / 9007199254740992 ≡ 2
  from-53 = omega arith

  read : FaultRead loads n value
  unfolding fault_kind fault_level fault_global
  read = record {
    value-is = omega arith;
    kind-is = omega arith;
    level-is = omega arith;
    tree_is = ap (λ (b : ℕ). eqb b 1) tree;
    loads-are = loads-of _ loads from-48 l;
    is-fault = eq-eqb _ 1 (odd _ from-54);
    no_address = (omega arith, ne_eqb _ 1 (even _ 2 from-52));
    no-interrupt = ne_eqb _ 1 (even _ 1 from-53);
    not-refused = omega arith;
  }

pub fault-read : (outcome : Outcome) (loads : ℕ) → outcome_fits outcome ≡ true → loads < 16
    → IfFault (FaultRead loads (outcome_answer outcome loads)) outcome
unfolding IfFault outcome_answer outcome_fits access_answer
fault-read (At address) loads fits l = tt
fault-read (Fault value) loads fits l = read value loads _ (ltb-true value 65536 fits) l (omega arith)
fault-read (Done emptied) loads fits l = tt
fault-read (Refused number) loads fits l = tt

pub faults-read : FaultsRead
unfolding served_number served_reply by_refusal reply_answer
faults-read registers buffer tables a accepted =
    let m = machine_of registers buffer tables in
    let fits = access-fits m a in
    record {
      fault-is = access-fault m a;
      is_read =
          subst
          (λ (t : Bool). IfFault (FaultRead (access_reply m a).loads
          (cond t (reply_answer (access_reply m a)) (refusal_answer (served_refusal registers buffer tables a)))) (access_reply m a).outcome)
          (sym (eq-eqb (served_refusal registers buffer tables a) 0 accepted))
          (fault-read (access_reply m a).outcome (access_reply m a).loads fits.0 fits.1);
    }
