-- Pools of frames: taken, given, counted and mapped.
use Rattle.std.specs.Prelude.{ℕ, ◌-◌, List, [], ◌∷◌, ◌++◌, length, get_or, replicate}
use Rattle.entry.specs.Entry.{pack}
use Rattle.entry.specs.Empty.{empty_entry}
use Rattle.registers.specs.Replies.{done}
use Rattle.registers.specs.declared.Outcome.TheVariants.{Done, Refused}
use Rattle.slots.specs.Buffer.Buffer.{Wide}
use Rattle.store.specs.Machine.{Machine}
use Rattle.heap.specs.Pools.{held_frames, done_pool, refused_pool}
use Rattle.heap.specs.NewPool.{new_reply, clear_pool}
use Rattle.heap.specs.Take.{take_reply}
use Rattle.heap.specs.Give.{give_reply}
use Rattle.heap.specs.Held.{held_outcome}
use Rattle.heap.specs.Map.{mapped_word, refused_map, map_answer, buffer_after_map, words_after_map}
use Rattle.heap.specs.Sequences.{history_of, last_pool, taken_in, given_in}
use Rattle.heap.specs.Histories.{Event, own_calls, Request, event_of}
use Rattle.heap.specs.Histories.Request.{ToTake, ToGive, ToMap}
use Rattle.heap.specs.declared.Pool.{Pool}
use Rattle.heap.specs.declared.Mapped.{Mapped}
use Rattle.examples.specs.Claims.{Example, ◌gives◌}
use Rattle.examples.specs.Scene.{enabled, started}
use Rattle.examples.specs.Accesses.{too_wide}
use Rattle.examples.specs.Calls.{short}
use Rattle.examples.specs.Walks.{good}
use Rattle.examples.specs.Served.{machine}
use Rattle.examples.specs.Stores.{agreeing, numbers}

-- a pool with these first words, the others 0
unfoldable pub pool_of : (first size : ℕ) (words : List ℕ) → Pool
pool_of first size words = record { first = first; size = size; bits = words ++ replicate (64 - length words) 0 }

abbrev full : ℕ
full = 0xFFFFFFFFFFFFFFFF

-- three frames from pfn 100 on
unfoldable pub three : (word : ℕ) → Pool
three word = pool_of 100 3 (word ∷ [])

unfoldable pub pool_calls : List Example
pool_calls =
    -- a new pool, at the ends of what fits
    (new_reply 100 3 gives done_pool 0 (three 0))
    ∷ (new_reply 0 4096 gives done_pool 0 (pool_of 0 4096 []))
    ∷ (new_reply 524287 1 gives done_pool 0 (pool_of 524287 1 []))
    ∷ (new_reply 100 0 gives refused_pool 1 (pool_of 0 0 []))
    ∷ (new_reply 0 4097 gives refused_pool 1 (pool_of 0 0 []))
    ∷ (new_reply 524287 2 gives refused_pool 1 (pool_of 0 0 []))
    ∷ (new_reply 0xFFFFFFFF 1 gives refused_pool 1 (pool_of 0 0 []))
    -- the lowest free frame; 10 where all three are held
    ∷ (take_reply (three 0) gives done_pool 100 (three 1))
    ∷ (take_reply (three 5) gives done_pool 101 (three 7))
    ∷ (take_reply (three 3) gives done_pool 102 (three 7))
    ∷ (take_reply (three 7) gives refused_pool 10 (three 7))
    -- bits past the size are ignored and stay
    ∷ (take_reply (three 0xFFF8) gives done_pool 100 (three 0xFFF9))
    ∷ (take_reply (three 0xFFFF) gives refused_pool 10 (three 0xFFFF))
    -- the second word, and the last frame of 4,096
    ∷ (take_reply (pool_of 100 65 (full ∷ 2 ∷ [])) gives done_pool 164 (pool_of 100 65 (full ∷ 3 ∷ [])))
    ∷ (take_reply (pool_of 100 65 (full ∷ 1 ∷ [])) gives refused_pool 10 (pool_of 100 65 (full ∷ 1 ∷ [])))
    ∷ (take_reply (pool_of 100 4096 (replicate 63 full ++ (0x7FFFFFFFFFFFFFFF ∷ []))) gives done_pool 4195 (pool_of 100 4096 (replicate 64 full)))
    -- a held frame is given, and no other
    ∷ (give_reply (three 0xFFFF) 100 gives done_pool 0 (three 0xFFFE))
    ∷ (give_reply (three 7) 102 gives done_pool 0 (three 3))
    ∷ (give_reply (three 5) 101 gives refused_pool 11 (three 5))
    ∷ (give_reply (three 0xFFFF) 99 gives refused_pool 11 (three 0xFFFF))
    ∷ (give_reply (three 0xFFFF) 103 gives refused_pool 11 (three 0xFFFF))
    -- the held number
    ∷ (held_outcome (three 0xFFFD) gives Done 2)
    ∷ (held_outcome (pool_of 100 65 (full ∷ 3 ∷ [])) gives Done 65)
    -- a pool that does not fit is refused by every call, and comes back
    ∷ (take_reply (pool_of 100 0 []) gives refused_pool 1 (pool_of 100 0 []))
    ∷ (give_reply (pool_of 100 4097 (1 ∷ [])) 100 gives refused_pool 1 (pool_of 100 4097 (1 ∷ [])))
    ∷ (held_outcome (pool_of 524287 2 (3 ∷ [])) gives Refused 1)
    ∷ []

-- page 1 of identification 5 in its slot, its table word at 1025
unfoldable pub page_loaded : Machine
page_loaded = machine (enabled 6 7) (Wide (numbers (pack agreeing) (empty_entry 2))) good

unfoldable pub mapped : (emptied pfn : ℕ) → Pool → Mapped
mapped emptied pfn p = record { reply = done (enabled 6 7) emptied; pfn = pfn; pool = p }

unfoldable pub maps : List Example
maps =
    -- present set, pfn replaced, all else the leaf's
    (mapped_word 0x5FF80123 7 gives 0xDFF80007)
    ∷ (mapped_word 0 0x7FFFF gives 0x8007FFFF)
    ∷ (mapped_word 0xFFFFFFFF 0 gives 0xFFF80000)
    -- another frame for the page empties its slot; the word stands there
    ∷ (map_answer page_loaded (three 1) 1025 0x50000123 gives mapped 1 101 (three 3))
    ∷ (get_or (words_after_map page_loaded (three 1) 1025 0x50000123) 1025 0 gives 0xD0000065)
    ∷ (buffer_after_map page_loaded (three 1) 1025 0x50000123 gives Wide (numbers (empty_entry 2) (empty_entry 2)))
    -- another page's word
    ∷ (map_answer page_loaded (three 0) 1026 0 gives mapped 0 100 (three 1))
    -- refused in order: 1 for pool or registers, 2, 3, 6, 10; nothing is taken or stored
    ∷ (map_answer (machine (enabled 6 7) short []) (pool_of 100 0 []) 0 0 gives refused_map (enabled 6 7) 1 (pool_of 100 0 []))
    ∷ (map_answer (machine too_wide short []) (three 7) 0 0 gives refused_map too_wide 1 (three 7))
    ∷ (map_answer (machine (enabled 6 7) short []) (three 7) 0 0 gives refused_map (enabled 6 7) 2 (three 7))
    ∷ (map_answer (machine (enabled 6 7) started []) (three 7) 0 0 gives refused_map (enabled 6 7) 3 (three 7))
    ∷ (map_answer (machine (enabled 6 7) started good) (three 7) 2048 0 gives refused_map (enabled 6 7) 6 (three 7))
    ∷ (map_answer (machine (enabled 6 7) started good) (three 7) 2047 0 gives refused_map (enabled 6 7) 10 (three 7))
    ∷ (words_after_map (machine (enabled 6 7) started good) (three 7) 1025 0 gives good)
    ∷ []

-- calls from a new pool of three frames, refused ones among them
unfoldable pub asked : List Request
asked =
    ToTake ∷ ToMap page_loaded 1025 0x50000123 ∷ ToGive 100 ∷ ToTake ∷ ToTake ∷ ToTake ∷ ToMap page_loaded 1025 0 ∷ ToGive 99 ∷ ToGive 103 ∷ []

unfoldable pub history : List Event
history = history_of own_calls Request event_of (clear_pool 100 3) asked

unfoldable pub histories : List Example
histories =
    (taken_in own_calls history gives 100 ∷ 101 ∷ 100 ∷ 102 ∷ [])
    ∷ (given_in own_calls history gives 100 ∷ [])
    ∷ (last_pool own_calls (clear_pool 100 3) history gives three 7)
    ∷ (held_frames (last_pool own_calls (clear_pool 100 3) history) gives 3)
    ∷ []
