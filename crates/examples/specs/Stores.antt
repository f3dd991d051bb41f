-- The sweep's rule, field by field; table stores and guarded settings.
use Rattle.std.specs.Prelude.{ℕ, ◌+◌, ◌^◌, Bool, true, false, List, [], ◌∷◌, ◌++◌, set, replicate}
use Rattle.entry.specs.Entry.{pack}
use Rattle.entry.specs.Empty.{empty_fields, empty_entry}
use Rattle.entry.specs.declared.Entry.{Entry}
use Rattle.registers.specs.Fields.{put, KSEG, CTRL, ENABLE, KBASE_LO, KBASE_HI, CONTEXT, SELECT, TLB_HI, TLB_LO, TEST}
use Rattle.registers.specs.Replies.{refused, done}
use Rattle.slots.specs.Buffer.Buffer.{Wide}
use Rattle.store.specs.Rewrite.{Put}
use Rattle.store.specs.Sweep.{kept}
use Rattle.store.specs.TableStore.{store_reply, buffer_after_store, words_after_store}
use Rattle.control.specs.Setting.{setting_reply}
use Rattle.examples.specs.Claims.{Example, ◌gives◌}
use Rattle.examples.specs.Scene.{reg, registers_with, enabled, started}
use Rattle.examples.specs.Walks.{tables, good, shared, global_broken}
use Rattle.examples.specs.Served.{machine}

-- page 1's entry under identification 5, as `good` has it, but for what is given
unfoldable pub entry_of : (vpn15 id : ℕ) (global valid kernel we : Bool) (pfn : ℕ) → Entry
entry_of vpn15 id global valid kernel we pfn =
    record { vpn15 = vpn15; page_id = id; global = global; valid = valid; kernel = kernel; we = we; pfn = pfn }

unfoldable pub agreeing : Entry
agreeing = entry_of 0 5 false true false true 0x123

unfoldable pub sweeps : List Example
sweeps =
    -- it agrees; each field that differs empties it
    (kept good 33 agreeing gives true)
    ∷ (kept good 33 (entry_of 1 5 false true false true 0x123) gives false)
    ∷ (kept good 33 (entry_of 0 6 false true false true 0x123) gives false)
    ∷ (kept good 33 (entry_of 0 5 true true false true 0x123) gives false)
    ∷ (kept good 33 (entry_of 0 5 false false false true 0x123) gives false)
    ∷ (kept good 33 (entry_of 0 5 false true true true 0x123) gives false)
    ∷ (kept good 33 (entry_of 0 5 false true false false 0x123) gives false)
    ∷ (kept good 33 (entry_of 0 5 false true false true 0x122) gives false)
    -- at another location it is another page's
    ∷ (kept good 34 agreeing gives false)
    -- a leaf that is not valid agrees with an entry that is not; software bits do not matter
    ∷ (kept (tables 2048 0x80000001 0x80000001 0x90000123) 33 (entry_of 0 5 false false false true 0x123) gives true)
    ∷ (kept (tables 2048 0x80000001 0x80000001 0xDFF80123) 33 agreeing gives true)
    -- absent and broken walks
    ∷ (kept (tables 2048 0x80000001 0x80000001 0x50000123) 33 agreeing gives false)
    ∷ (kept global_broken 33 agreeing gives false)
    -- the global tree is first: the entry must be global, and any identification from 0 to 62 will do
    ∷ (kept shared 33 agreeing gives false)
    ∷ (kept shared 33 (entry_of 0 5 true true false true 0x123) gives true)
    ∷ (kept shared 33 (entry_of 0 62 true true false true 0x123) gives true)
    ∷ (kept shared 33 (entry_of 0 63 true true false true 0x123) gives false)
    -- an empty slot is the empty one of its own set
    ∷ (kept good 33 (empty_fields 2) gives true)
    ∷ (kept good 33 (empty_fields 1) gives false)
    ∷ (kept good 33 (entry_of 2 63 true false false false 0) gives false)
    ∷ (kept good 33 (entry_of 2 63 false true false false 0) gives false)
    ∷ (kept good 33 (entry_of 2 63 false false true false 0) gives false)
    ∷ (kept good 33 (entry_of 2 63 false false false true 0) gives false)
    ∷ (kept good 33 (entry_of 2 63 false false false false 1) gives false)
    ∷ []

-- bits 44 and 63
abbrev pub junk : ℕ
junk = 2 ^ 44 + 2 ^ 63

-- empty slots but for three: slot 0 empty with junk above it, slot 33 as given, and slot 34 as given
unfoldable pub numbers : (third fourth : ℕ) → List ℕ
numbers third fourth =
    set (set (set
    (replicate 16 (empty_entry 0) ++ replicate 16 (empty_entry 1) ++ replicate 16 (empty_entry 2) ++ replicate 16 (empty_entry 3))
    0 (empty_entry 0 + junk)) 33 third) 34 fourth

abbrev put-at : (index value : ℕ) → Put
put-at index value = record { index = index; value = value }

unfoldable pub stores : List Example
stores =
    -- a store elsewhere: what agrees stays with its high bits, and so does an empty slot; what nothing backs becomes empty, and is counted
    (buffer_after_store (machine (enabled 6 7) (Wide (numbers (pack agreeing + junk) (pack agreeing + junk))) good) (put-at 100 7)
    gives Wide (numbers (pack agreeing + junk) (empty_entry 2)))
    ∷ (store_reply (machine (enabled 6 7) (Wide (numbers (pack agreeing + junk) (pack agreeing + junk))) good) (put-at 100 7)
    gives done (enabled 6 7) 1)
    ∷ (words_after_store (machine (enabled 6 7) (Wide (numbers 0 0)) good) (put-at 1025 7) gives set good 1025 7)
    -- numbers that are 0 are not empty: 62 of them and two more
    ∷ (store_reply (machine (enabled 6 7) (Wide (replicate 64 0)) good) (put-at 100 7) gives done (enabled 6 7) 64)
    ∷ (store_reply (machine (enabled 6 7) started good) (put-at 5 0) gives done (enabled 6 7) 0)
    -- the word of the page itself, its directory, its root, and the global root
    ∷ (store_reply (machine (enabled 6 7) (Wide (numbers (pack agreeing) (empty_entry 2))) good) (put-at 1025 0xD0000123)
    gives done (enabled 6 7) 0)
    ∷ (store_reply (machine (enabled 6 7) (Wide (numbers (pack agreeing) (empty_entry 2))) good) (put-at 1025 0xD0000124)
    gives done (enabled 6 7) 1)
    ∷ (store_reply (machine (enabled 6 7) (Wide (numbers (pack agreeing) (empty_entry 2))) good) (put-at 512 0) gives done (enabled 6 7) 1)
    ∷ (store_reply (machine (enabled 6 7) (Wide (numbers (pack agreeing) (empty_entry 2))) good) (put-at 5 0) gives done (enabled 6 7) 1)
    ∷ (store_reply (machine (enabled 6 7) (Wide (numbers (pack agreeing) (empty_entry 2))) good) (put-at 63 0x80000001)
    gives done (enabled 6 7) 1)
    -- refused: in the table's order, and nothing changes
    ∷ (store_reply (machine (registers_with (reg SELECT 64 ∷ [])) (Wide []) []) (put-at 0 0)
    gives refused (registers_with (reg SELECT 64 ∷ [])) 1)
    ∷ (store_reply (machine (enabled 6 7) (Wide (replicate 63 0)) []) (put-at 0 0) gives refused (enabled 6 7) 2)
    ∷ (store_reply (machine (enabled 6 7) started (replicate 1536 0)) (put-at 1536 0) gives refused (enabled 6 7) 3)
    ∷ (store_reply (machine (enabled 6 7) started good) (put-at 2048 0) gives refused (enabled 6 7) 6)
    ∷ (store_reply (machine (enabled 6 7) started good) (put-at 2047 0) gives done (enabled 6 7) 0)
    ∷ (buffer_after_store (machine (enabled 6 7) (Wide (replicate 64 0)) good) (put-at 2048 0) gives Wide (replicate 64 0))
    ∷ (words_after_store (machine (enabled 6 7) (Wide (replicate 65 0)) good) (put-at 5 0) gives good)
    ∷ []

unfoldable pub guarded_settings : List Example
guarded_settings =
    -- each at its largest value
    (setting_reply (enabled 5 7) KSEG 0xFFFF gives done (put (enabled 5 7) KSEG 0xFFFF) 0)
    ∷ (setting_reply (enabled 5 7) CTRL 7 gives done (put (enabled 5 7) CTRL 7) 0)
    ∷ (setting_reply (enabled 5 7) ENABLE 1 gives done (put (enabled 5 7) ENABLE 1) 0)
    ∷ (setting_reply (enabled 5 7) KBASE_LO 0xFFFFFFFF gives done (put (enabled 5 7) KBASE_LO 0xFFFFFFFF) 0)
    ∷ (setting_reply (enabled 5 7) KBASE_HI 0xFFFFFFFF gives done (put (enabled 5 7) KBASE_HI 0xFFFFFFFF) 0)
    ∷ (setting_reply (enabled 5 7) CONTEXT 62 gives done (put (enabled 5 7) CONTEXT 62) 0)
    -- one more; for CONTEXT number 5 stands before 7
    ∷ (setting_reply (enabled 5 7) KSEG 0x10000 gives refused (enabled 5 7) 7)
    ∷ (setting_reply (enabled 5 7) CTRL 8 gives refused (enabled 5 7) 7)
    ∷ (setting_reply (enabled 5 7) ENABLE 2 gives refused (enabled 5 7) 7)
    ∷ (setting_reply (enabled 5 7) CONTEXT 63 gives refused (enabled 5 7) 5)
    ∷ (setting_reply (enabled 5 7) CONTEXT 64 gives refused (enabled 5 7) 5)
    ∷ (setting_reply (enabled 5 7) CONTEXT 0xFFFFFFFF gives refused (enabled 5 7) 5)
    -- every other number is unknown
    ∷ (setting_reply (enabled 5 7) SELECT 0 gives refused (enabled 5 7) 7)
    ∷ (setting_reply (enabled 5 7) TLB_HI 0 gives refused (enabled 5 7) 7)
    ∷ (setting_reply (enabled 5 7) TLB_LO 0 gives refused (enabled 5 7) 7)
    ∷ (setting_reply (enabled 5 7) TEST 0 gives refused (enabled 5 7) 7)
    ∷ (setting_reply (enabled 5 7) 10 0 gives refused (enabled 5 7) 7)
    -- the registers are checked first; context 63 and test mode are no hindrance
    ∷ (setting_reply (registers_with (reg SELECT 64 ∷ [])) CONTEXT 63 gives refused (registers_with (reg SELECT 64 ∷ [])) 1)
    ∷ (setting_reply (put (enabled 63 7) TEST 1) CONTEXT 5 gives done (put (enabled 5 7) TEST 1) 0)
    ∷ []
