-- What the events of a sequence give to the report's totals, by their effects, their answers and the reader alone.
use Rattle.std.specs.Prelude.{ℕ, ◌+◌, Bool, true, false, cond, ◌&&◌, List, [], ◌∷◌, eqb, ℤ, pos, ◌+ℤ◌}
use Rattle.runs.specs.Bits.{bit}
use Rattle.registers.specs.declared.Outcome.{Outcome}
use Rattle.registers.specs.declared.Outcome.TheVariants.{At, Fault, Done, Refused}
use Rattle.registers.specs.declared.Reply.{Reply}
use Rattle.sequence.specs.Effects.{Effect}
use Rattle.sequence.specs.Effects.Effect.{Keep, Serve, Rewrite, Set}
use Rattle.sequence.specs.Calls.{Event, accepted, effect_by}
use Rattle.sequence.specs.Systems.{System, system_after}
use Rattle.report.specs.Totals.{Gain}
use Rattle.report.specs.Gains.{access_gains, store_gains, leaf_change}
use Rattle.report.specs.Sums.{amount_in}

-- an access by its outcome and its loads, a rewrite by the slots that it emptied and the change in leaf words
unfoldable pub effect_gains : Effect → (before after : List ℕ) → Reply → List Gain
effect_gains Keep before after reply = []
effect_gains (Serve a) before after reply = access_gains reply.outcome reply.loads
effect_gains (Rewrite groups) before after reply = store_gains reply.outcome (leaf_change before after)
effect_gains (Set number value) before after reply = []

-- of an accepted event, with the reader's words before and after it; a refused one gives nothing
unfoldable pub event_gains : System → Event → List Gain
event_gains s e =
    cond (accepted e.call)
    (effect_gains (effect_by e.call) s.reader.words (system_after s e).reader.words e.reply)
    []

-- what an event adds to a total, where the reader's CONTEXT of that moment is the identification
unfoldable pub added_by : System → Event → (id column : ℕ) → ℤ
added_by s e id column = cond (eqb s.reader.settings.context id) (amount_in column (event_gains s e)) (pos 0)

unfoldable pub sum_over : System → List Event → (id column : ℕ) → ℤ
sum_over s [] id column = pos 0
sum_over s (e ∷ es) id column = added_by s e id column +ℤ sum_over (system_after s e) es id column

-- an access got an address
unfoldable pub got_address : Effect → Outcome → Bool
got_address Keep outcome = false
got_address (Serve a) (At address) = true
got_address (Serve a) (Fault value) = false
got_address (Serve a) (Done value) = false
got_address (Serve a) (Refused number) = false
got_address (Rewrite groups) outcome = false
got_address (Set number value) outcome = false

-- how many accepted accesses under an identification did
unfoldable pub addresses_over : System → List Event → (id : ℕ) → ℕ
addresses_over s [] id = 0
addresses_over s (e ∷ es) id =
    bit (accepted e.call && (eqb s.reader.settings.context id && got_address (effect_by e.call) e.reply.outcome))
    + addresses_over (system_after s e) es id

-- the columns of the faults by their kind, 1 to 8, 16 and 32
unfoldable pub fault_columns : List ℕ
fault_columns = 2 ∷ 3 ∷ 4 ∷ 5 ∷ 6 ∷ 7 ∷ 8 ∷ 9 ∷ 10 ∷ 11 ∷ []

-- the totals of some columns together
unfoldable pub together : (total : (column : ℕ) → ℤ) → List ℕ → ℤ
together total [] = pos 0
together total (column ∷ columns) = total column +ℤ together total columns
