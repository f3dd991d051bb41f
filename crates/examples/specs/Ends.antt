-- The ends of each bound and field that unit and reader share.
use Rattle.std.specs.Prelude.{ℕ, true, false, List, [], ◌∷◌, set, replicate}
use Rattle.entry.specs.Entry.{unpack}
use Rattle.registers.specs.Fields.{put, to_words, TEST}
use Rattle.registers.specs.Replies.{done, answered}
use Rattle.registers.specs.declared.Outcome.TheVariants.{At}
use Rattle.page_table.specs.Words.{reserved, number, leaf_pfn}
use Rattle.page_table.specs.Stretches.{length_fits, inside}
use Rattle.page_table.specs.Walk.{walk_page}
use Rattle.page_table.specs.declared.Walk.TheVariants.{Absent}
use Rattle.slots.specs.Buffer.{slot_at, with_slot}
use Rattle.slots.specs.Buffer.Buffer.{Wide}
use Rattle.slots.specs.Start.{start_buffer}
use Rattle.access.specs.Segments.{segment_base}
use Rattle.store.specs.Sweep.{kept}
use Rattle.store.specs.TableStore.{store_reply, buffer_after_store}
use Rattle.mmu.specs.ServedAccess.{served_reply, served_buffer}
use Rattle.examples.specs.Claims.{Example, ◌gives◌}
use Rattle.examples.specs.Scene.{enabled, enabled_after, started, user}
use Rattle.examples.specs.Walks.{good}
use Rattle.examples.specs.Served.{machine, aged_entry, reading}
use Rattle.examples.specs.Stores.{entry_of}

-- the last page, of identification 62, in the last frame
unfoldable pub last : List ℕ
last = set (set (set (replicate 2048 0) 62 0x80000001) 1023 0x80000001) 2047 0xD007FFFF

unfoldable pub ends : List Example
ends =
    -- number 3: 1,024 to 67,108,864 words
    (length_fits 0 gives false)
    ∷ (length_fits 1024 gives true)
    ∷ (length_fits 67108864 gives true)
    ∷ (length_fits 67109888 gives false)
    -- the registers' numbers
    ∷ (to_words (record {
      kseg = 100;
      ctrl = 101;
      enable = 102;
      kbase_lo = 103;
      kbase_hi = 104;
      context = 105;
      select = 106;
      tlb_hi = 107;
      tlb_lo = 108;
      test = 109;
      cause = 110;
    })
    gives 100 ∷ 101 ∷ 102 ∷ 103 ∷ 104 ∷ 105 ∷ 106 ∷ 107 ∷ 108 ∷ 109 ∷ 110 ∷ [])
    -- all bits of a field
    ∷ (leaf_pfn 0xFFFFFFFF gives 0x7FFFF)
    ∷ (number 0xFFFFFFFF gives 0xFFFF)
    ∷ (reserved 0xFFFFFFFF gives 0x7FFF)
    ∷ (inside 67108864 1024 65535 gives true)
    ∷ (unpack 0x00100000 gives record { vpn15 = 0; page_id = 0; global = false; valid = false; kernel = true; we = false; pfn = 0 })
    ∷ (segment_base 0x76543210 0xFEDCBA98 7 gives 7)
    ∷ (segment_base 0x76543210 0xFEDCBA98 8 gives 8)
    -- SELECT names the slot of the load, where that is not the draw's
    ∷ (served_reply (machine (enabled 5 3) (with_slot started 49 (aged_entry 5 false)) good) reading
    gives answered (enabled_after 5 3 49 1 16) (At 0x00246ABC) 1)
    -- the last page: walk, load, sweep
    ∷ (walk_page last 30 0x7FFFF gives Absent (record { global = false; level = 1 }))
    ∷ (served_reply (machine (enabled 62 7) started last) (user false 0xFFFFFFFF 3)
    gives answered (enabled_after 62 7 63 0x7FFFF 16) (At 0xFFFFFFFF) 1)
    ∷ (slot_at (served_buffer (machine (enabled 62 7) started last) (user false 0xFFFFFFFF 3)) 63 gives 17592172412927)
    ∷ (kept last 47 (entry_of 0x7FFF 62 false true false true 0x7FFFF) gives true)
    -- a store sweeps all 64 slots, also where the word has the value already, in test mode and under context 63
    ∷ (store_reply (machine (put (enabled 63 7) TEST 1) (Wide (replicate 64 0)) good) (record { index = 100; value = 0 })
    gives done (put (enabled 63 7) TEST 1) 64)
    ∷ (buffer_after_store (machine (put (enabled 63 7) TEST 1) (Wide (replicate 64 0)) good) (record { index = 100; value = 0 })
    gives start_buffer (Wide (replicate 64 0)))
    ∷ []
