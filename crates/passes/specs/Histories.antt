-- Takes, gives, maps and passes on a pool, one after another.
use Rattle.std.specs.Prelude.{ℕ, List, []}
use Rattle.slots.specs.Buffer.{Buffer}
use Rattle.store.specs.Machine.{Machine}
use Rattle.heap.specs.Histories as heap
use Rattle.heap.specs.Histories.{if_done}
use Rattle.heap.specs.Sequences.{Calls, EveryHistoryOf}
use Rattle.heap.specs.Balance.{BalanceOf, NeverTwiceLiveOf}
use Rattle.heap.specs.PastTheSize.{PastStaysOf}
use Rattle.heap.specs.declared.Pool.{Pool}
use Rattle.collector.specs.Visits.{pass_leaves}
use Rattle.collector.specs.Frames.{given_of}
use Rattle.collector.specs.Collect.{collect_answer, buffer_after_collect, words_after_collect, CollectGives}
use Rattle.collector.specs.declared.Collected.{Collected}

-- a take, a give or a map; or a pass: its other arguments, what it answered, and what it left in the runs that it was lent
pub data Event : Type 0 where
  OfPool : (e : heap.Event) → Event
  OfPass : (m : Machine) (id : ℕ) (answer : Collected) (buffer-after : Buffer) (words-after : List ℕ) → Event

-- the call was handed this pool, and kept its promise
unfoldable pub Kept : Pool → Event → Type 0
Kept p (OfPool e) = heap.Kept p e
Kept p (OfPass m id answer buffer-after words-after) = CollectGives m p id answer buffer-after words-after

-- the pool that it handed back
unfoldable pub pool_left : Event → Pool
pool_left (OfPool e) = heap.pool_left e
pool_left (OfPass m id answer buffer-after words-after) = answer.pool

-- the frames that a call took and those that it gave, told by its arguments and its answer: an accepted pass gives those of the visited
-- leaves that were not valid. The pool of the answer has the first pfn and the size of the one that was handed in.
unfoldable pub taken_by : Event → List ℕ
taken_by (OfPool e) = heap.taken_by e
taken_by (OfPass m id answer buffer-after words-after) = []

unfoldable pub given_by : Event → List ℕ
given_by (OfPool e) = heap.given_by e
given_by (OfPass m id answer buffer-after words-after) =
    if_done answer.reply.outcome (given_of (pass_leaves m.words answer.pool.first answer.pool.size id))

abbrev pub calls_with_passes : Calls
calls_with_passes = record { Event = Event; Kept = Kept; pool_left = pool_left; taken_by = taken_by; given_by = given_by }

-- "W-203's balance covers it": at the new pool and after each call
unfoldable pub BalanceWithPasses : Type 0
BalanceWithPasses = BalanceOf calls_with_passes

-- two live takes never answer the same frame: between two takes or mappings that answer it, it is given, by a give or by a pass
unfoldable pub NeverTwiceLive : Type 0
NeverTwiceLive = NeverTwiceLiveOf calls_with_passes

-- no bit past the size changes
unfoldable pub PastStays : Type 0
PastStays = PastStaysOf calls_with_passes

-- what a user asks of a pool, and the event in which the call answers as its definition says
pub data Request : Type 0 where
  ToPool : (r : heap.Request) → Request
  ToPass : (m : Machine) (id : ℕ) → Request

unfoldable pub event_of : Pool → Request → Event
event_of p (ToPool r) = OfPool (heap.event_of p r)
event_of p (ToPass m id) = OfPass m id (collect_answer m p id) (buffer_after_collect m p id) (words_after_collect m p id)

unfoldable pub EveryHistory : Type 0
EveryHistory = EveryHistoryOf calls_with_passes Request event_of
