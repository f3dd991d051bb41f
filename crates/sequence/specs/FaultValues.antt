-- The fault values of the reader, and so of every access in a sequence.
use Rattle.std.specs.Prelude.{ℕ, ◌≡◌, Bool, true, false, not, ◌&&◌, List, [], ◌∷◌}
use Rattle.registers.specs.declared.Access.{Access}
use Rattle.registers.specs.declared.Outcome.{Outcome}
use Rattle.registers.specs.declared.Reply.{Reply}
use Rattle.page_table.specs.Stretches.{tables_fit}
use Rattle.slots.specs.Buffer.{Buffer, buffer_fits}
use Rattle.access.specs.Segments.{in_linear_segment}
use Rattle.access.specs.Translation.{is_set}
use Rattle.control.specs.Starting.{StartGives}
use Rattle.mmu.specs.FaultValues.{IfFault, DecidedBy}
use Rattle.sequence.specs.Reader.{Reader, reader_walk, reader_answer}
use Rattle.sequence.specs.Effects.{Effect}
use Rattle.sequence.specs.Effects.Effect.{Keep, Serve, Rewrite, Set}
use Rattle.sequence.specs.Calls.{Event, effect_by}
use Rattle.sequence.specs.Systems.{System, begun, system_after, Moment, IfAccepted}
use Rattle.sequence.specs.Systems.Moment.{Start, After}
use Rattle.sequence.specs.Demand3.{HandedThroughout}

-- the least value of a fault: multiple hits, which give 0, do not occur
abbrev pub least_fault : ℕ
least_fault = 1

-- "enable off gives the virtual address; then the linear rule; then the walk": the third
unfoldable pub by_walk : Reader → Access → Bool
by_walk d a = is_set d.settings.enable && not (in_linear_segment d.settings.kseg a)

-- The reader's walk decides: with a leaf a fault is 1 to 8; without one there is a fault, of the walk's own value, which is one of the
-- seven that say where it stopped. Where no walk is made there is no fault.
pub record ReaderFault (d : Reader) (a : Access) (outcome : Outcome) : Type 0 where
  pub walked : by_walk d a ≡ true → DecidedBy least_fault (reader_walk d a) outcome
  pub else-none : by_walk d a ≡ false → IfFault (λ value. ⊥) outcome

abbrev pub ReaderFaults : Type 0
ReaderFaults = (d : Reader) (a : Access) → ReaderFault d a (reader_answer d a)

-- an accepted access was decided so
unfoldable pub FaultOwed : Reader → Effect → Outcome → Type 0
FaultOwed d Keep outcome = Unit {0}
FaultOwed d (Serve a) outcome = ReaderFault d a outcome
FaultOwed d (Rewrite gs) outcome = Unit {0}
FaultOwed d (Set number value) outcome = Unit {0}

unfoldable pub FaultGiven : System → Event → Type 0
FaultGiven s e = FaultOwed s.reader (effect_by e.call) e.reply.outcome

unfoldable pub FaultsThroughout : System → Moment → List Event → Type 0
FaultsThroughout s at [] = IfAccepted FaultGiven at
FaultsThroughout s at (e ∷ es) = IfAccepted FaultGiven at × FaultsThroughout (system_after s e) (After s e) es

-- so of every sequence of which demand 3 speaks
abbrev pub SequenceFaults : Type 0
SequenceFaults =
    (lent buffer : Buffer) (reply : Reply) (words : List ℕ) → buffer_fits lent ≡ true → StartGives lent buffer reply → tables_fit words ≡ true
    → (events : List Event) → HandedThroughout (begun reply buffer words) events
    → FaultsThroughout (begun reply buffer words) Start events
