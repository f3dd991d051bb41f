-- The call collect: one pass over the tree of an identification. Refusals 1, 2, 3, 5 and 12.
use Rattle.std.specs.Prelude.{ℕ, ◌≡◌, Bool, ◌&&◌, List, length, leb}
use Rattle.registers.specs.Fields.{registers_fit}
use Rattle.registers.specs.Refusals.{refuse_unless, machine_refusal, by_refusal}
use Rattle.registers.specs.Replies.{refusal_of, refused, done}
use Rattle.registers.specs.declared.Registers.{Registers}
use Rattle.page_table.specs.Stretches.{tables_fit}
use Rattle.slots.specs.Buffer.{Buffer, buffer_fits}
use Rattle.store.specs.Machine.{Machine}
use Rattle.store.specs.Rewrite.{Put}
use Rattle.store.specs.Stores.{after_stores, emptied_in}
use Rattle.heap.specs.Pools.{pool_fits}
use Rattle.heap.specs.declared.Pool.{Pool}
use Rattle.trees.specs.Trees.{tree_fits}
use Rattle.collector.specs.Visits.{pass_leaves, aged_puts}
use Rattle.collector.specs.Frames.{pfns_of, given_of, mapped_right, pool_after_gives}
use Rattle.collector.specs.declared.Collected.{Collected}

-- the leaves that a pass visits, by the words as they came in, and the stores that it makes
unfoldable pub visited_by : Machine → Pool → (id : ℕ) → List Put
visited_by m p id = pass_leaves m.words p.first p.size id

unfoldable pub stores_of : Machine → Pool → (id : ℕ) → List Put
stores_of m p id = aged_puts (visited_by m p id)

-- none of number 12's grounds holds: the tree stands by itself, and a frame of the pool is mapped once at most, and only while it is held
unfoldable pub may_collect : (words : List ℕ) → Pool → (id : ℕ) → Bool
may_collect words p id = tree_fits words id && mapped_right p (pfns_of (pass_leaves words p.first p.size id))

-- number 1 for the pool, as for the registers; then 2, 3, "5 for an identification above 62", 12
unfoldable pub collect_refusal : Machine → Pool → (id : ℕ) → ℕ
collect_refusal m p id =
    refuse_unless (pool_fits p) 1
    (machine_refusal (registers_fit m.registers) (buffer_fits m.buffer) (tables_fit m.words)
    (refuse_unless (leb id 62) 5 (refuse_unless (may_collect m.words p id) 12 0)))

-- a refused pass gives no frame back: the pool comes back unchanged
abbrev pub refused_collect : Registers → (number : ℕ) → Pool → Collected
refused_collect r number p = record { reply = refused r number; given = 0; pool = p }

-- "It answers the frames given back and the slots emptied", these by a table store's reply; the registers stay
unfoldable pub collect_answer : Machine → Pool → (id : ℕ) → Collected
collect_answer m p id =
    by_refusal (collect_refusal m p id)
    (record {
      reply = done m.registers (emptied_in m (stores_of m p id));
      given = length (given_of (visited_by m p id));
      pool = pool_after_gives p (given_of (visited_by m p id));
    })
    (refused_collect m.registers (collect_refusal m p id) p)

-- "The end state is that of the same guarded stores made one after another in that order."
unfoldable pub buffer_after_collect : Machine → Pool → (id : ℕ) → Buffer
buffer_after_collect m p id = by_refusal (collect_refusal m p id) (after_stores m (stores_of m p id)).buffer m.buffer

unfoldable pub words_after_collect : Machine → Pool → (id : ℕ) → List ℕ
words_after_collect m p id = by_refusal (collect_refusal m p id) (after_stores m (stores_of m p id)).words m.words

-- what the call promises
pub record CollectGives (m : Machine) (p : Pool) (id : ℕ) (answer : Collected) (buffer-after : Buffer) (words-after : List ℕ)
    : Type 0 where
  pub refusal_is : refusal_of answer.reply.outcome ≡ collect_refusal m p id
  pub answer-is : answer ≡ collect_answer m p id
  pub buffer-is : buffer-after ≡ buffer_after_collect m p id
  pub words_are : words-after ≡ words_after_collect m p id
