-- Faults that say where the walk stopped: each of the seven values, of the unit and of the reader alike.
use Rattle.std.specs.Prelude.{ℕ, true, false, List, [], ◌∷◌, ◌++◌, set}
use Rattle.registers.specs.declared.Outcome.{Outcome}
use Rattle.registers.specs.declared.Outcome.TheVariants.{Fault}
use Rattle.page_table.specs.Faults.{fault_kind, fault_level, fault_global}
use Rattle.mmu.specs.ServedAccess.{served_reply}
use Rattle.sequence.specs.Reader.{settings_of, reader_answer}
use Rattle.examples.specs.Claims.{Example, ◌gives◌}
use Rattle.examples.specs.Scene.{enabled, started, user}
use Rattle.examples.specs.Walks.{tables, good, shared, global_broken}
use Rattle.examples.specs.Served.{machine, aged}

-- a user's read of an address under an identification, with an empty buffer and CTRL's three bits, and the reader's answer to it
unfoldable pub unit_says : (words : List ℕ) (id ctrl address : ℕ) → Outcome
unit_says words id ctrl address = (served_reply (machine (enabled id ctrl) started words) (user false address 1)).outcome

unfoldable pub reader_says : (words : List ℕ) (id ctrl address : ℕ) → Outcome
reader_says words id ctrl address = reader_answer (record { words = words; settings = settings_of (enabled id ctrl) }) (user false address 1)

unfoldable pub both_say : (words : List ℕ) (id ctrl address value : ℕ) → List Example
both_say words id ctrl address value =
    (unit_says words id ctrl address gives Fault value) ∷ (reader_says words id ctrl address gives Fault value) ∷ []

-- the global tree's directory is number 2, and its first word is broken; or it is number 3, and that word is absent, or leads to table 2,
-- in which no page is present
unfoldable pub global_directory_broken : List ℕ
global_directory_broken = set (set good 63 0x80000002) 1024 0x80000000

unfoldable pub global_leaf_absent : List ℕ
global_leaf_absent = set (set (tables 3072 0x80000001 0x80000001 0xD0000123) 63 0x80000003) 1536 0x80000002

unfoldable pub stops : List Example
stops =
    -- absent: no root, no word in the directory, no leaf
    both_say good 4 7 0x2ABC 0x110
    ++ both_say good 5 7 0x800ABC 0x210
    ++ both_say good 5 7 0x4ABC 0x310
    -- broken in the own tree: the root, the directory's word
    ++ both_say (tables 2048 0x80000000 0x80000001 0xD0000123) 5 7 0x2ABC 0x120
    ++ both_say (tables 2048 0x80000001 0x80000000 0xD0000123) 5 7 0x2ABC 0x220
    -- broken in the global tree, whatever the own tree has
    ++ both_say global_broken 5 7 0x2ABC 0x1120
    ++ both_say global_directory_broken 5 7 0x2ABC 0x1220
    -- broken in the own tree behind a global one that is absent at the same level
    ++ both_say (set (tables 2048 0x80000001 0x80000000 0xD0000123) 63 0x80000003) 5 7 0x2ABC 0x220
    -- the word that decided, and not the deepest that was read: the global tree stops at level 3, the own one at level 1
    ++ both_say global_leaf_absent 4 7 0x2ABC 0x110
    ++ both_say shared 4 7 0x4ABC 0x110
    ++ both_say (set global_leaf_absent 5 0x80000000) 5 7 0x2ABC 0x120
    -- a leaf that is not valid, with inv_exc off: 8, and no level
    ++ both_say aged 5 3 0x2ABC 8
    -- what a value says
    ++ (fault_kind 0x1220 gives 32)
    ∷ (fault_level 0x1220 gives 2)
    ∷ (fault_global 0x1220 gives true)
    ∷ (fault_kind 0x310 gives 16)
    ∷ (fault_level 0x310 gives 3)
    ∷ (fault_global 0x310 gives false)
    ∷ (fault_kind 8 gives 8)
    ∷ []
