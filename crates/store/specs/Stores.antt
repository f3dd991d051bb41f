-- Table stores made one after another, by the call's own definitions.
use Rattle.std.specs.Prelude.{ℕ, ◌+◌, List, [], ◌∷◌}
use Rattle.registers.specs.declared.Outcome.{Outcome}
use Rattle.registers.specs.declared.Outcome.TheVariants.{At, Fault, Done, Refused}
use Rattle.store.specs.Machine.{Machine}
use Rattle.store.specs.Rewrite.{Put}
use Rattle.store.specs.TableStore.{store_reply, buffer_after_store, words_after_store}

-- what a store answered
unfoldable pub done_of : Outcome → ℕ
done_of (At address) = 0
done_of (Fault value) = 0
done_of (Done value) = value
done_of (Refused number) = 0

-- the machine after a store, each handed what the last one left
unfoldable pub after_store : Machine → Put → Machine
after_store m q = record { registers = (store_reply m q).registers; buffer = buffer_after_store m q; words = words_after_store m q }

unfoldable pub after_stores : Machine → List Put → Machine
after_stores m [] = m
after_stores m (q ∷ qs) = after_stores (after_store m q) qs

-- the slots that they emptied, added up
unfoldable pub emptied_in : Machine → List Put → ℕ
emptied_in m [] = 0
emptied_in m (q ∷ qs) = done_of (store_reply m q).outcome + emptied_in (after_store m q) qs
