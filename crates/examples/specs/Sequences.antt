-- Sequences from the start, by the lines that they give: document 01's worked trace, and one that reaches every outcome.
use Rattle.std.specs.Prelude.{ℕ, true, false, List, [], ◌∷◌, ◌++◌, replicate}
use Rattle.registers.specs.Fields.{CTRL, ENABLE, KSEG, CONTEXT, SELECT, TEST}
use Rattle.registers.specs.declared.Access.{Access}
use Rattle.registers.specs.declared.Outcome.{Outcome}
use Rattle.registers.specs.declared.Outcome.TheVariants.{At, Fault, Done, Refused}
use Rattle.slots.specs.Buffer.{Buffer}
use Rattle.slots.specs.Buffer.Buffer.{Wide}
use Rattle.control.specs.Starting.{start_reply, started_buffer}
use Rattle.sequence.specs.Calls.Call.{ServedAccess, TableStore, GuardedSetting}
use Rattle.sequence.specs.Requests.Request.{ToAccess, ToStore, ToSet}
use Rattle.sequence.specs.Systems.{System, begun}
use Rattle.sequence.specs.Asks.{Ask, Line, events_of, lines_of}
use Rattle.sequence.specs.Asks.Ask.{Now, Stray}
use Rattle.examples.specs.Claims.{Example, ◌gives◌}
use Rattle.examples.specs.Scene.{reg, registers_with, enabled, started, user, supervisor}
use Rattle.examples.specs.Walks.{good}
use Rattle.examples.specs.Served.{machine, reading}

-- a start over a lent buffer that was not 0, and so many table words, all 0
unfoldable pub lent : Buffer
lent = Wide (replicate 64 0x123456789abcdef0)

unfoldable pub fresh : (length : ℕ) → System
fresh length = begun (start_reply lent) (started_buffer lent) (replicate length 0)

abbrev access : Access → Ask
access a = Now (ToAccess a)

abbrev store : (index value : ℕ) → Ask
store index value = Now (ToStore (record { index = index; value = value }))

abbrev setting : (number value : ℕ) → Ask
setting number value = Now (ToSet number value)

abbrev line : (outcome : Outcome) (loads : ℕ) → Line
line outcome loads = record { outcome = outcome; loads = loads }

-- document 01's records 0 to 8; the tenth is no call
unfoldable pub worked : List Ask
worked =
    store 0x5 0x80000001
    ∷ store 0x200 0x80000001
    ∷ store 0x401 0xD0000123
    ∷ setting CONTEXT 5
    ∷ setting ENABLE 1
    ∷ access (user false 0x2ABC 2)
    ∷ access (user true 0x2ABC 0)
    ∷ access (user false 0x4000 1)
    ∷ store 0x401 0
    ∷ []

unfoldable pub worked_lines : List Line
worked_lines =
    line (Done 0) 0
    ∷ line (Done 0) 0
    ∷ line (Done 0) 0
    ∷ line (Done 0) 0
    ∷ line (Done 0) 0
    ∷ line (At 0x00246ABC) 1
    ∷ line (At 0x00246ABC) 0
    ∷ line (Fault 0x310) 0
    ∷ line (Done 1) 0
    ∷ []

-- calls that were handed something else than the machine: each number for each call that can give it
unfoldable pub strays : List Ask
strays =
    -- 1: SELECT has six bits
    Stray (ServedAccess (machine (registers_with (reg SELECT 64 ∷ [])) started good) reading)
    ∷ Stray (TableStore (machine (registers_with (reg SELECT 64 ∷ [])) started good) (record { index = 0; value = 0 }))
    ∷ Stray (GuardedSetting (registers_with (reg SELECT 64 ∷ [])) ENABLE 0)
    -- 2: 63 slots
    ∷ Stray (ServedAccess (machine (enabled 5 7) (Wide (replicate 63 0)) good) reading)
    ∷ Stray (TableStore (machine (enabled 5 7) (Wide (replicate 63 0)) good) (record { index = 0; value = 0 }))
    -- 3: 1,023 words
    ∷ Stray (ServedAccess (machine (enabled 5 7) started (replicate 1023 0)) reading)
    ∷ Stray (TableStore (machine (enabled 5 7) started (replicate 1023 0)) (record { index = 0; value = 0 }))
    -- 5: test mode, and context 63
    ∷ Stray (ServedAccess (machine (registers_with (reg TEST 1 ∷ [])) started good) reading)
    ∷ Stray (ServedAccess (machine (enabled 63 7) started good) reading)
    ∷ []

unfoldable pub stray_lines : List Line
stray_lines =
    line (Refused 1) 0
    ∷ line (Refused 1) 0
    ∷ line (Refused 1) 0
    ∷ line (Refused 2) 0
    ∷ line (Refused 2) 0
    ∷ line (Refused 3) 0
    ∷ line (Refused 3) 0
    ∷ line (Refused 5) 0
    ∷ line (Refused 5) 0
    ∷ []

-- page 1 of identification 5, kernel and not writable, first not valid and then valid; every exception on
unfoldable pub outcomes : List Ask
outcomes =
    store 0x5 0x80000001
    ∷ store 0x200 0x80000001
    ∷ store 0x401 0xA0000123
    ∷ setting CONTEXT 5
    ∷ setting CTRL 7
    -- enable off: the virtual address, and no load
    ∷ access (user true 0x2ABC 2)
    ∷ setting ENABLE 1
    -- not valid: 7 with a load, then 6, 5 and 4 from the buffer
    ∷ access (user true 0x2ABC 2)
    ∷ access (user false 0x2ABC 1)
    ∷ access (supervisor true 0x2ABC 0)
    ∷ access (supervisor false 0x2ABC 3)
    -- inv_exc off: 8, loaded into the slot where the page is already, so that inv_exc on again finds it once
    ∷ setting CTRL 3
    ∷ access (user true 0x2ABC 0)
    ∷ setting CTRL 7
    ∷ access (supervisor false 0x2ABC 3)
    -- made valid: the store empties a slot; 3 with a load, then 2, 1, and a hit
    ∷ store 0x401 0xE0000123
    ∷ access (user true 0x2ABC 3)
    ∷ access (user false 0x2ABC 2)
    ∷ access (supervisor true 0x2ABC 1)
    ∷ access (supervisor false 0x2ABC 0)
    -- absent, broken, and a linear segment
    ∷ access (user false 0x4000 1)
    ∷ store 0x6 0x80000000
    ∷ setting CONTEXT 6
    ∷ access (user false 0x2ABC 1)
    ∷ setting KSEG 1
    ∷ access (supervisor false 0x2ABC 1)
    -- refused for their own arguments: 4, 6, 5, 5, 7, 7
    ∷ access (user false 0x2ABC 4)
    ∷ store 2048 0
    ∷ setting CONTEXT 63
    ∷ setting CONTEXT 64
    ∷ setting SELECT 0
    ∷ setting CTRL 8
    ∷ []

unfoldable pub outcome_lines : List Line
outcome_lines =
    line (Done 0) 0
    ∷ line (Done 0) 0
    ∷ line (Done 0) 0
    ∷ line (Done 0) 0
    ∷ line (Done 0) 0
    ∷ line (At 0x2ABC) 0
    ∷ line (Done 0) 0
    ∷ line (Fault 7) 1
    ∷ line (Fault 6) 0
    ∷ line (Fault 5) 0
    ∷ line (Fault 4) 0
    ∷ line (Done 0) 0
    ∷ line (Fault 8) 1
    ∷ line (Done 0) 0
    ∷ line (Fault 4) 0
    ∷ line (Done 1) 0
    ∷ line (Fault 3) 1
    ∷ line (Fault 2) 0
    ∷ line (Fault 1) 0
    ∷ line (At 0x00246ABC) 0
    ∷ line (Fault 0x310) 0
    ∷ line (Done 0) 0
    ∷ line (Done 0) 0
    ∷ line (Fault 0x120) 0
    ∷ line (Done 0) 0
    ∷ line (At 0x2ABC) 0
    ∷ line (Refused 4) 0
    ∷ line (Refused 6) 0
    ∷ line (Refused 5) 0
    ∷ line (Refused 5) 0
    ∷ line (Refused 7) 0
    ∷ line (Refused 7) 0
    ∷ []

-- page 1 of identification 5, whose leaf changes while its entry stands in the buffer: each store empties the entry's slot
unfoldable pub changes : List Ask
changes =
    store 0x5 0x80000001
    ∷ store 0x200 0x80000001
    ∷ store 0x401 0xD0000777
    ∷ setting CONTEXT 5
    ∷ setting CTRL 7
    ∷ setting ENABLE 1
    -- loaded, then a hit
    ∷ access (user false 0x2ABC 2)
    ∷ access (user false 0x2ABC 0)
    -- another frame: its address
    ∷ store 0x401 0xD0000456
    ∷ access (user false 0x2ABC 1)
    -- removed: absent at the leaf
    ∷ store 0x401 0
    ∷ access (user false 0x2ABC 1)
    -- back again and loaded, then aged: the invalid page's exception, at the load and at the hit
    ∷ store 0x401 0xD0000777
    ∷ access (user false 0x2ABC 3)
    ∷ store 0x401 0x90000777
    ∷ access (user false 0x2ABC 3)
    ∷ access (user false 0x2ABC 3)
    -- a kernel page without we: with the two others
    ∷ store 0x401 0xA0000777
    ∷ access (user true 0x2ABC 0)
    -- inv_exc off: a final miss
    ∷ setting CTRL 3
    ∷ access (user true 0x2ABC 0)
    -- valid again and loaded, then its directory word has number 0: broken
    ∷ store 0x401 0xD0000456
    ∷ access (user false 0x2ABC 0)
    ∷ store 0x200 0x80000000
    ∷ access (user false 0x2ABC 0)
    ∷ []

unfoldable pub change_lines : List Line
change_lines =
    line (Done 0) 0
    ∷ line (Done 0) 0
    ∷ line (Done 0) 0
    ∷ line (Done 0) 0
    ∷ line (Done 0) 0
    ∷ line (Done 0) 0
    ∷ line (At 0x00EEEABC) 1
    ∷ line (At 0x00EEEABC) 0
    ∷ line (Done 1) 0
    ∷ line (At 0x008ACABC) 1
    ∷ line (Done 1) 0
    ∷ line (Fault 0x310) 0
    ∷ line (Done 0) 0
    ∷ line (At 0x00EEEABC) 1
    ∷ line (Done 1) 0
    ∷ line (Fault 4) 1
    ∷ line (Fault 4) 0
    ∷ line (Done 1) 0
    ∷ line (Fault 7) 1
    ∷ line (Done 0) 0
    ∷ line (Fault 8) 1
    ∷ line (Done 1) 0
    ∷ line (At 0x008ACABC) 1
    ∷ line (Done 1) 0
    ∷ line (Fault 0x220) 0
    ∷ []

unfoldable pub sequences : List Example
sequences =
    (lines_of (events_of (fresh 16384) worked) gives worked_lines)
    ∷ (lines_of (events_of (fresh 2048) (outcomes ++ strays)) gives outcome_lines ++ stray_lines)
    ∷ (lines_of (events_of (fresh 2048) changes) gives change_lines)
    ∷ []
