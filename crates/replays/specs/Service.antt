-- A trace stays in service: its contexts, its faults and its accesses.
use Rattle.std.specs.Prelude.{ℕ, ◌≤◌, ◌≡◌, true, List, [], ◌∷◌}
use Rattle.registers.specs.declared.Access.{Access}
use Rattle.registers.specs.declared.Outcome.{Outcome}
use Rattle.page_table.specs.Faults.{fault_kind}
use Rattle.slots.specs.Buffer.{Buffer, buffer_fits}
use Rattle.store.specs.Machine.{Machine}
use Rattle.mmu.specs.FaultValues.{IfFault}
use Rattle.sequence.specs.Calls.{Event, accepted}
use Rattle.sequence.specs.Calls.Call.{ServedAccess}
use Rattle.sequence.specs.Systems.{System, system_after}
use Rattle.report.specs.Gains.{has_column}
use Rattle.replays.specs.Traces.{trace_system, trace_events}

-- what is so at the start and after each event
unfoldable pub AtEach : (P : System → Type 0) → System → List Event → Type 0
AtEach P s [] = P s
AtEach P s (e ∷ es) = P s × AtEach P (system_after s e) es

-- what is so of each event, and the system before it
unfoldable pub OfEach : (P : System → Event → Type 0) → System → List Event → Type 0
OfEach P s [] = Unit {0}
OfEach P s (e ∷ es) = P s e × OfEach P (system_after s e) es

-- CONTEXT is 62 at most, in the registers and as the reader holds it
pub record ContextServed (s : System) : Type 0 where
  pub in_registers : s.machine.registers.context ≤ 62
  pub in-reader : s.reader.settings.context ≤ 62

-- a fault, if it is one, is of a kind that the report counts, 1 to 8, 16 or 32
abbrev pub KindHasColumn : Outcome → Type 0
KindHasColumn = IfFault (λ value. has_column (fault_kind value) ≡ true)

-- and not of kind 0, that of multiple hits
abbrev pub KindNot0 : Outcome → Type 0
KindNot0 = IfFault (λ value. fault_kind value ≡ 0 → ⊥)

unfoldable pub FaultCounted : System → Event → Type 0
FaultCounted s e = KindHasColumn e.reply.outcome

unfoldable pub NoKind0 : System → Event → Type 0
NoKind0 s e = KindNot0 e.reply.outcome

-- an access is accepted
unfoldable pub AccessAccepted : System → Event → Type 0
AccessAccepted s e = (given : Machine) (a : Access) → e.call ≡ ServedAccess given a → accepted e.call ≡ true

pub record TraceIsServed (lent : Buffer) (input : List ℕ) : Type 0 where
  pub contexts-served : AtEach ContextServed (trace_system lent) (trace_events lent input)
  pub faults-counted : OfEach FaultCounted (trace_system lent) (trace_events lent input)
  pub no-kind-0 : OfEach NoKind0 (trace_system lent) (trace_events lent input)
  pub accesses-accepted : OfEach AccessAccepted (trace_system lent) (trace_events lent input)

-- so of every input
abbrev pub TracesAreServed : Type 0
TracesAreServed = (lent : Buffer) (input : List ℕ) → buffer_fits lent ≡ true → TraceIsServed lent input
