-- What a record's call gives to the totals of the identification under which it is made.
use Rattle.std.specs.Prelude.{ℕ, ◌+◌, Bool, cond, ◌&&◌, ◌||◌, List, [], ◌∷◌, eqb, leb, ℤ, pos, ◌-ℤ◌}
use Rattle.registers.specs.declared.Outcome.{Outcome}
use Rattle.registers.specs.declared.Outcome.TheVariants.{At, Fault, Done, Refused}
use Rattle.page_table.specs.Faults.{fault_kind}
use Rattle.store.specs.Machine.{Machine}
use Rattle.reach.specs.Leaves.{leaf_count}
use Rattle.trace.specs.Steps.{step_reply, words_after_step}
use Rattle.trace.specs.declared.Command.{Command}
use Rattle.trace.specs.declared.Command.TheVariants.{Serve, Store, Set, Malformed}
use Rattle.report.specs.Totals.{Gain, SERVED, LOADS, EMPTIED, CHANGE}

-- a gain of so much in a column
unfoldable pub gain : (column : ℕ) (amount : ℤ) → Gain
gain column amount = record { column = column; amount = amount }

-- "faults by value (1 to 8, 16, 32)": columns 2 to 11, by the kind of the value. No other kind has a column.
unfoldable pub has_column : (kind : ℕ) → Bool
has_column kind = (leb 1 kind && leb kind 8) || eqb kind 16 || eqb kind 32

-- the column of such a kind
unfoldable pub fault_column : (kind : ℕ) → ℕ
fault_column kind = cond (leb kind 8) (kind + 1) (cond (eqb kind 16) 10 11)

unfoldable pub fault_gains : (kind : ℕ) → List Gain
fault_gains kind = cond (has_column kind) (gain (fault_column kind) (pos 1) ∷ []) []

-- An accepted served access, of any outcome, counts once, with its loads. A fault counts by its kind, the low bits of its value, wherever
-- its walk stopped: the report "still counts them as 16 and 32".
unfoldable pub access_gains : Outcome → (loads : ℕ) → List Gain
access_gains (At address) loads = gain SERVED (pos 1) ∷ gain LOADS (pos loads) ∷ []
access_gains (Fault value) loads = gain SERVED (pos 1) ∷ gain LOADS (pos loads) ∷ fault_gains (fault_kind value)
access_gains (Done value) loads = []
access_gains (Refused number) loads = []

-- "from stores made under that context, slots emptied and the net change in present leaf words, which may be below zero"
unfoldable pub store_gains : Outcome → (change : ℤ) → List Gain
store_gains (At address) change = []
store_gains (Fault value) change = []
store_gains (Done emptied) change = gain EMPTIED (pos emptied) ∷ gain CHANGE change ∷ []
store_gains (Refused number) change = []

-- leaf words after minus leaf words before
unfoldable pub leaf_change : (before after : List ℕ) → ℤ
leaf_change before after = pos (leaf_count after) -ℤ pos (leaf_count before)

-- what a record gives: its accepted access or store; a setting, a malformed record and a refused call give nothing
unfoldable pub gains_of : Machine → Command → List Gain
gains_of m (Serve a) = access_gains (step_reply m (Serve a)).outcome (step_reply m (Serve a)).loads
gains_of m (Store index value) =
    store_gains (step_reply m (Store index value)).outcome (leaf_change m.words (words_after_step m (Store index value)))
gains_of m (Set number value) = []
gains_of m Malformed = []
