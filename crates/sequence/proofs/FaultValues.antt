-- The fault values of the reader, and so of every access in a sequence. Assumes nothing.
use Prim.Native.Nat.{ℕ, ◌≤◌}
use mathlib.Core.Path.{◌≡◌, refl, sym, subst}
use mathlib.Core.Bool.{Bool, true, false, cond, not, ◌&&◌}
use mathlib.Core.List.{List, [], ◌∷◌}
use native.Mathlib.Omega.{arith}
use lib.Dec.{eqb}
use borrow.Author.Tests.{eqb-false}
use Rattle.runs.proofs.Bools.{clash}
use Rattle.registers.specs.declared.Access.{Access}
use Rattle.registers.specs.declared.Outcome.{Outcome}
use Rattle.registers.specs.declared.Outcome.TheVariants.{At, Fault}
use Rattle.page_table.specs.Words.{leaf_valid, leaf_kernel, leaf_we, leaf_pfn}
use Rattle.page_table.specs.Faults.{walk_fault, ToldByFault, PossibleFault}
use Rattle.page_table.proofs.FaultLaws.{walk-told}
use Rattle.page_table.specs.declared.Found.{Found}
use Rattle.page_table.specs.declared.Walk.{Walk}
use Rattle.page_table.specs.declared.Walk.TheVariants.{Leaf, Absent, Broken}
use Rattle.access.specs.Segments.{in_linear_segment, linear_address}
use Rattle.access.specs.Exceptions.{inv_exc, exception_value}
use Rattle.access.specs.Translation.{is_set, page_address}
use Rattle.access.proofs.Keeping.{exception-lt}
use Rattle.mmu.specs.FaultValues.{IfFault, DecidedBy}
use Rattle.mmu.proofs.FaultValues.{absent-decides, broken-decides}
use Rattle.sequence.specs.Reader.{Reader, reader_walk, leaf_answer, walk_answer, reader_answer}
use Rattle.sequence.specs.Effects.{Effect, AnswerOwed}
use Rattle.sequence.specs.Effects.Effect.{Keep, Serve, Rewrite, Set}
use Rattle.sequence.specs.Calls.{Event, effect_by}
use Rattle.sequence.specs.Sentences.{AnsweredAsReader}
use Rattle.sequence.specs.Systems.{System, system_after, Moment, IfAccepted}
use Rattle.sequence.specs.Systems.Moment.{Start, After}
use Rattle.sequence.specs.Demand3.{Holds, HoldsThroughout, Demand3}
use Rattle.sequence.specs.FaultValues.{least_fault, by_walk, ReaderFault, ReaderFaults, FaultOwed, FaultGiven, FaultsThroughout}
use Rattle.sequence.specs.FaultValues.{SequenceFaults}
use Rattle.sequence.proofs.Theorem.{demand3}

-- a leaf's fault: 8, or its exceptions, of which there is one
leaf-decides : (ctrl : ℕ) (a : Access) (f : Found) → DecidedBy least_fault (Leaf f) (leaf_answer ctrl a f)
unfolding DecidedBy IfFault PossibleFault leaf_answer walk_fault
leaf-decides ctrl a f = by_bits (not (leaf_valid f.word) && not (inv_exc ctrl)) (eqb value 0) refl
  where
    value : ℕ
    value = exception_value ctrl a (leaf_valid f.word) (leaf_kernel f.word) (leaf_we f.word)

    by_bits : (unseen none : Bool) → eqb value 0 ≡ none
        → IfFault (λ (v : ℕ). (least_fault ≤ v) × (v ≤ 8))
        (cond unseen (Fault 8) (cond none (At (page_address (leaf_pfn f.word) a.address)) (Fault value)))
    by_bits true none e = (omega arith, omega arith)
    by_bits false true e = tt
    by_bits false false e =
        let some = eqb-false value 0 e in
        let low = exception-lt ctrl a (leaf_valid f.word) (leaf_kernel f.word) (leaf_we f.word) in
        (omega arith, omega arith)

walk-decides : (found : Walk) (ctrl : ℕ) (a : Access) → ToldByFault found → DecidedBy least_fault found (walk_answer found ctrl a)
unfolding walk_answer
walk-decides (Leaf f) ctrl a told = leaf-decides ctrl a f
walk-decides (Absent s) ctrl a told = absent-decides least_fault s told
walk-decides (Broken s) ctrl a told = broken-decides least_fault s told

pub reader-faults : ReaderFaults
unfolding reader_answer reader_walk by_walk IfFault
reader-faults d a = by-rule (is_set d.settings.enable) (in_linear_segment d.settings.kseg a) refl refl
  where
    linear : ℕ
    linear = linear_address d.settings.kbase-lo d.settings.kbase-hi a.address

    by-rule : (on in-segment : Bool) → is_set d.settings.enable ≡ on → in_linear_segment d.settings.kseg a ≡ in-segment
        → ReaderFault d a (cond on (cond in-segment (At linear) (walk_answer (reader_walk d a) d.settings.ctrl a)) (At a.address))
    by-rule true true e f = record { walked = λ w. absurd (clash w (rw (e, f))); else-none = λ w. tt }
    by-rule true false e f = record {
      walked = λ w. walk-decides (reader_walk d a) d.settings.ctrl a (walk-told d.words _ _);
      else-none = λ w. absurd (clash (rw (e, f)) w);
    }
    by-rule false in-segment e f = record { walked = λ w. absurd (clash w (rw e)); else-none = λ w. tt }

-- the answer that an effect owes is the reader's
owed : (d : Reader) (e : Effect) (outcome : Outcome) → AnswerOwed d e outcome → FaultOwed d e outcome
unfolding AnswerOwed FaultOwed
owed d Keep outcome q = tt
owed d (Serve a) outcome q = subst (ReaderFault d a) (sym q) (reader-faults d a)
owed d (Rewrite gs) outcome q = tt
owed d (Set number value) outcome q = tt

given : (s : System) (at : Moment) → Holds s at → IfAccepted FaultGiven at
unfolding IfAccepted FaultGiven AnsweredAsReader
given s Start h = tt
given s (After before event) h = λ y. owed before.reader (effect_by event.call) event.reply.outcome (h.same_answer y)

throughout : (s : System) (at : Moment) (events : List Event) → HoldsThroughout s at events → FaultsThroughout s at events
unfolding HoldsThroughout FaultsThroughout
throughout s at [] h = given s at h
throughout s at (e ∷ es) h = (given s at h.0, throughout (system_after s e) (After s e) es h.1)

pub sequence-faults : SequenceFaults
unfolding Demand3
sequence-faults lent buffer reply words fits start tables events handed =
    throughout _ Start events (demand3 lent buffer reply words fits start tables events handed)
