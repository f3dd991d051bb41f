-- Takes, gives and maps, with what each answered and left, and the frames that they took and gave.
use Rattle.std.specs.Prelude.{ℕ, List, [], ◌∷◌}
use Rattle.registers.specs.declared.Outcome.{Outcome}
use Rattle.registers.specs.declared.Outcome.TheVariants.{At, Fault, Done, Refused}
use Rattle.slots.specs.Buffer.{Buffer}
use Rattle.store.specs.Machine.{Machine}
use Rattle.heap.specs.Sequences.{Calls, EveryHistoryOf}
use Rattle.heap.specs.Take.{take_reply, TakeGives}
use Rattle.heap.specs.Give.{give_reply, GiveGives}
use Rattle.heap.specs.Map.{map_answer, buffer_after_map, words_after_map, MapGives}
use Rattle.heap.specs.declared.Pool.{Pool}
use Rattle.heap.specs.declared.PoolReply.{PoolReply}
use Rattle.heap.specs.declared.Mapped.{Mapped}

-- a call that may change a pool: its other arguments, what it answered, and what it left in the runs that it was lent
pub data Event : Type 0 where
  Take : (reply : PoolReply) → Event
  Give : (pfn : ℕ) (reply : PoolReply) → Event
  Map : (m : Machine) (index leaf : ℕ) (answer : Mapped) (buffer-after : Buffer) (words-after : List ℕ) → Event

-- the call was handed this pool, and kept its promise
unfoldable pub Kept : Pool → Event → Type 0
Kept p (Take reply) = TakeGives p reply
Kept p (Give pfn reply) = GiveGives p pfn reply
Kept p (Map m index leaf answer buffer-after words-after) = MapGives m p index leaf answer buffer-after words-after

-- the pool that it handed back
unfoldable pub pool_left : Event → Pool
pool_left (Take reply) = reply.pool
pool_left (Give pfn reply) = reply.pool
pool_left (Map m index leaf answer buffer-after words-after) = answer.pool

-- some frames where a call was accepted, none where it was refused
unfoldable pub if_done : Outcome → List ℕ → List ℕ
if_done (At address) frames = []
if_done (Fault value) frames = []
if_done (Done value) frames = frames
if_done (Refused number) frames = []

-- the value of a call that was accepted: for a take its frame's pfn
unfoldable pub done_value : Outcome → List ℕ
done_value (At address) = []
done_value (Fault value) = []
done_value (Done value) = value ∷ []
done_value (Refused number) = []

-- the frames that a call took and those that it gave, by their pfns: told by its arguments and its answer, and not by any pool
unfoldable pub taken_by : Event → List ℕ
taken_by (Take reply) = done_value reply.outcome
taken_by (Give pfn reply) = []
taken_by (Map m index leaf answer buffer-after words-after) = if_done answer.reply.outcome (answer.pfn ∷ [])

unfoldable pub given_by : Event → List ℕ
given_by (Take reply) = []
given_by (Give pfn reply) = if_done reply.outcome (pfn ∷ [])
given_by (Map m index leaf answer buffer-after words-after) = []

abbrev pub own_calls : Calls
own_calls = record { Event = Event; Kept = Kept; pool_left = pool_left; taken_by = taken_by; given_by = given_by }

-- what a user asks of a pool, and the event in which the call answers as its definition says
pub data Request : Type 0 where
  ToTake : Request
  ToGive : (pfn : ℕ) → Request
  ToMap : (m : Machine) (index leaf : ℕ) → Request

unfoldable pub event_of : Pool → Request → Event
event_of p ToTake = Take (take_reply p)
event_of p (ToGive pfn) = Give pfn (give_reply p pfn)
event_of p (ToMap m index leaf) = Map m index leaf (map_answer m p index leaf) (buffer_after_map m p index leaf) (words_after_map m p index leaf)

unfoldable pub EveryHistory : Type 0
EveryHistory = EveryHistoryOf own_calls Request event_of
