-- Walks: each way one ends, at each level.
use Rattle.std.specs.Prelude.{ℕ, true, false, List, [], ◌∷◌, set, replicate}
use Rattle.page_table.specs.Walk.{walk_page}
use Rattle.page_table.specs.declared.Walk.TheVariants.{Leaf, Absent, Broken}
use Rattle.examples.specs.Claims.{Example, ◌gives◌}

-- a run of so many words, 0 but for three: the root of identification 5, the first word of directory 1, and page 1's word in table 1
unfoldable pub tables : (length root directory leaf : ℕ) → List ℕ
tables length root directory leaf = set (set (set (replicate length 0) 5 root) 512 directory) 1025 leaf

unfoldable pub good : List ℕ
good = tables 2048 0x80000001 0x80000001 0xD0000123

-- the global root names the same directory, or is broken
unfoldable pub shared : List ℕ
shared = set good 63 0x80000001

unfoldable pub global_broken : List ℕ
global_broken = set good 63 0x80000000

unfoldable pub walks : List Example
walks =
    -- a leaf, in a table that ends at the run's end; absent at the leaf, the directory and the root
    (walk_page good 5 1 gives Leaf (record { global = false; word = 0xD0000123; index = 1025 }))
    ∷ (walk_page good 5 2 gives Absent (record { global = false; level = 3 }))
    ∷ (walk_page good 5 1024 gives Absent (record { global = false; level = 2 }))
    ∷ (walk_page good 4 1 gives Absent (record { global = false; level = 1 }))
    -- a word with present 0 is absent whatever its other bits
    ∷ (walk_page (tables 2048 0x7FFFFFFF 0x80000001 0xD0000123) 5 1 gives Absent (record { global = false; level = 1 }))
    ∷ (walk_page (tables 2048 0x80000001 0x7FFFFFFF 0xD0000123) 5 1 gives Absent (record { global = false; level = 2 }))
    ∷ (walk_page (tables 2048 0x80000001 0x80000001 0x7FFFFFFF) 5 1 gives Absent (record { global = false; level = 3 }))
    -- a leaf is never broken: its software bits are free
    ∷ (walk_page (tables 2048 0x80000001 0x80000001 0xFFFFFFFF) 5 1 gives Leaf (record { global = false; word = 0xFFFFFFFF; index = 1025 }))
    -- broken at the root: reserved bits, number 0, a stretch outside the run, one that begins inside and ends outside
    ∷ (walk_page (tables 2048 0x80010001 0x80000001 0xD0000123) 5 1 gives Broken (record { global = false; level = 1 }))
    ∷ (walk_page (tables 2048 0xC0000001 0x80000001 0xD0000123) 5 1 gives Broken (record { global = false; level = 1 }))
    ∷ (walk_page (tables 2048 0x80000000 0x80000001 0xD0000123) 5 1 gives Broken (record { global = false; level = 1 }))
    ∷ (walk_page (tables 2048 0x80000004 0x80000001 0xD0000123) 5 1 gives Broken (record { global = false; level = 1 }))
    ∷ (walk_page (tables 1023 0x80000001 0x80000001 0xD0000123) 5 1 gives Broken (record { global = false; level = 1 }))
    -- the same at the directory
    ∷ (walk_page (tables 2048 0x80000001 0x80010001 0xD0000123) 5 1 gives Broken (record { global = false; level = 2 }))
    ∷ (walk_page (tables 2048 0x80000001 0xC0000001 0xD0000123) 5 1 gives Broken (record { global = false; level = 2 }))
    ∷ (walk_page (tables 2048 0x80000001 0x80000000 0xD0000123) 5 1 gives Broken (record { global = false; level = 2 }))
    ∷ (walk_page (tables 2048 0x80000001 0x80000002 0xD0000123) 5 1 gives Broken (record { global = false; level = 2 }))
    ∷ (walk_page (tables 2047 0x80000001 0x80000001 0xD0000123) 5 1 gives Broken (record { global = false; level = 2 }))
    -- the global tree is first; where it is absent the own tree is walked, and where it is broken the walk ends
    ∷ (walk_page shared 4 1 gives Leaf (record { global = true; word = 0xD0000123; index = 1025 }))
    ∷ (walk_page shared 5 1 gives Leaf (record { global = true; word = 0xD0000123; index = 1025 }))
    ∷ (walk_page shared 4 2 gives Absent (record { global = false; level = 1 }))
    ∷ (walk_page global_broken 5 1 gives Broken (record { global = true; level = 1 }))
    ∷ (walk_page (set (set good 63 0x80000002) 1024 0x80000000) 5 1 gives Broken (record { global = true; level = 2 }))
    ∷ (walk_page (set good 63 0x80000002) 5 1 gives Leaf (record { global = false; word = 0xD0000123; index = 1025 }))
    ∷ (walk_page (set (set (tables 3072 0x80000001 0x80000001 0xD0000123) 63 0x80000003) 1536 0x80000002) 5 1
    gives Leaf (record { global = false; word = 0xD0000123; index = 1025 }))
    -- the last page: the last word of the directory and of the table
    ∷ (walk_page (set (set (set (replicate 2048 0) 5 0x80000001) 1023 0x80000001) 2047 0xD0000123) 5 0x7FFFF
    gives Leaf (record { global = false; word = 0xD0000123; index = 2047 }))
    ∷ []
