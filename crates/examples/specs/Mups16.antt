-- The MUPS/16 unit, in one list: boot mode, each fault, table indexes, entry addresses, bits above an entry's 19, and a history.
use Rattle.std.specs.Prelude.{ℕ, ◌+◌, ◌*◌, Bool, true, false, List, [], ◌∷◌, ◌++◌, set, replicate, Ok, Err}
use Rattle.mups16.specs.Answers.{refusal_of}
use Rattle.mups16.specs.States.{index_of, with_index}
use Rattle.mups16.specs.Map.{map_reply}
use Rattle.mups16.specs.Read.{read_low, read_high}
use Rattle.mups16.specs.Set.{set_answer, entries_after_set}
use Rattle.mups16.specs.Histories.{last_state}
use Rattle.mups16.specs.Requests.{history_of}
use Rattle.mups16.specs.Requests.Request.{ToMap, ToSetTableIndex, ToSetBootMode}
use Rattle.mups16.specs.LastFault.{last_fault}
use Rattle.mups16.specs.declared.State.{State}
use Rattle.mups16.specs.declared.refusal.Refusal.TheVariants.{WrongLength}
use Rattle.mups16.specs.declared.MapReply.{MapReply}
use Rattle.examples.specs.Claims.{Example, ◌gives◌}

unfoldable pub kept : (index : ℕ) (boot-mode : Bool) (fault : ℕ) → State
kept index boot-mode fault = record { table_index = index; boot_mode = boot-mode; fault_address = fault }

-- a map's answer and the state after it
unfoldable pub answered : (address : ℕ) (no-mapping write-violation protection-violation : Bool) → State → MapReply
answered address no-mapping write-violation protection-violation s = record {
  answer = Ok (record {
    address = address;
    no_mapping = no-mapping;
    write_violation = write-violation;
    protection_violation = protection-violation;
  });
  state = s;
}

unfoldable pub refused : State → MapReply
refused s = record { answer = Err WrongLength; state = s }

-- every entry 0, but one; every bit of every entry set
unfoldable pub one : (place e : ℕ) → List ℕ
one place e = set (replicate 8192 0) place e

unfoldable pub full : List ℕ
full = replicate 8192 0xFFFFFFFF

-- document 004's page 05 hex, mapped to physical page 0732 hex, by the three bits of its entry
unfoldable pub page : (rights : ℕ) → List ℕ
page rights = one 5 (rights * 65536 + 0x0732)

unfoldable pub maps : List Example
maps =
    -- boot mode: no entry counts, nothing faults, and the fault address stays
    (map_reply full (kept 0 true 0x1234) 0x053a true true gives answered 0x80053a false false false (kept 0 true 0x1234))
    ∷ (map_reply (page 0) (kept 31 true 0x1234) 0xffff true true gives answered 0x80ffff false false false (kept 31 true 0x1234))
    ∷ (map_reply full (kept 33 true 0x1234) 0x3a05 false false gives answered 0x803a05 false false false (kept 33 true 0x1234))
    -- mapped and writable: no fault
    ∷ (map_reply (page 5) (kept 0 false 0x1234) 0x053a true true gives answered 0x07323a false false false (kept 0 false 0x1234))
    -- each fault alone: mapped 0; a write where writable is 0; a user where system is 1
    ∷ (map_reply (page 1) (kept 0 false 0x1234) 0x053a true true gives answered 0x07323a true false false (kept 0 false 0x053a))
    ∷ (map_reply (page 4) (kept 0 false 0x1234) 0x053a true true gives answered 0x07323a false true false (kept 0 false 0x053a))
    ∷ (map_reply (page 7) (kept 0 false 0x1234) 0x053a true true gives answered 0x07323a false false true (kept 0 false 0x053a))
    -- the same pages for a read, and for the system
    ∷ (map_reply (page 4) (kept 0 false 0x1234) 0x053a true false gives answered 0x07323a false false false (kept 0 false 0x1234))
    ∷ (map_reply (page 7) (kept 0 false 0x1234) 0x053a false true gives answered 0x07323a false false false (kept 0 false 0x1234))
    -- all three together, two together, and an entry of 0
    ∷ (map_reply (page 2) (kept 32 false 0x1234) 0x053a true true gives answered 0x07323a true true true (kept 32 false 0x053a))
    ∷ (map_reply (page 6) (kept 0 false 0x1234) 0x053a true true gives answered 0x07323a false true true (kept 0 false 0x053a))
    ∷ (map_reply (page 5) (kept 0 false 0x1234) 0x3a05 false false gives answered 0x000005 true false false (kept 0 false 0x3a05))
    -- index 31 is the last table; a kept index of 32 counts as 0, and comes back as it went in
    ∷ (map_reply (one 8191 0x5abcd) (kept 31 false 0) 0xffff true true gives answered 0xabcdff false false false (kept 31 false 0))
    ∷ (map_reply (one 8191 0x5abcd) (kept 30 false 0) 0xffff false false gives answered 0x0000ff true false false (kept 30 false 0xffff))
    ∷ (map_reply (page 5) (kept 32 false 0) 0x053a true true gives answered 0x07323a false false false (kept 32 false 0))
    ∷ (map_reply (one 261 0x50732) (kept 0xFFFFFFE1 false 0) 0x053a true true
    gives answered 0x07323a false false false (kept 0xFFFFFFE1 false 0))
    -- bits 19 and up of an entry do not count
    ∷ (map_reply (one 5 0xFFF80732) (kept 0 false 0) 0x053a true true gives answered 0x07323a true true false (kept 0 false 0x053a))
    ∷ (map_reply full (kept 0 false 0) 0x053a true true gives answered 0xffff3a false false true (kept 0 false 0x053a))
    -- a run of another length is refused, in boot mode too
    ∷ (map_reply (replicate 8191 0) (kept 33 false 7) 0x053a true true gives refused (kept 33 false 7))
    ∷ (map_reply (replicate 8193 0) (kept 32 true 7) 0x053a true true gives refused (kept 32 true 7))
    ∷ []

unfoldable pub reads : List Example
reads =
    -- an entry address keeps its low 13 bits
    (read_low (one 8191 0x5abcd) 8191 gives Ok 0xabcd)
    ∷ (read_low (one 8191 0x5abcd) 8192 gives Ok 0)
    ∷ (read_low (one 0 0x5abcd) 8192 gives Ok 0xabcd)
    ∷ (read_low (one 8191 0x5abcd) 65535 gives Ok 0xabcd)
    ∷ (read_low (one 8191 0x5abcd) 0xFFFFFFFF gives Ok 0xabcd)
    -- the table index above the three bits; both by the bits that count
    ∷ (read_high (one 8191 0x5abcd) (kept 31 false 0) 65535 gives Ok 0x1f05)
    ∷ (read_high (one 8191 0x5abcd) (kept 32 true 0) 8191 gives Ok 0x0005)
    ∷ (read_high full (kept 0xFFFFFFFF false 0) 0 gives Ok 0x1f07)
    ∷ (read_low full 0 gives Ok 0xffff)
    ∷ (read_low (replicate 8191 0) 0 gives Err WrongLength)
    ∷ (read_high (replicate 8193 0) (kept 0 false 0) 0 gives Err WrongLength)
    -- the number that each answer refuses with
    ∷ (refusal_of (read_low full 0) gives 0)
    ∷ (refusal_of (read_low (replicate 8191 0) 0) gives 2)
    ∷ (refusal_of (set_answer full) gives 0)
    ∷ (refusal_of (map_reply full (kept 0 false 0) 0x053a true true).answer gives 0)
    ∷ []

unfoldable pub sets : List Example
sets =
    -- the table index
    (with_index 31 (kept 7 true 9) gives kept 31 true 9)
    ∷ (with_index 32 (kept 7 true 9) gives kept 0 true 9)
    ∷ (with_index 0xFFFFFFFF (kept 7 false 9) gives kept 31 false 9)
    ∷ (index_of (kept 32 false 0) gives 0)
    -- an entry: bits 19 and up are written as 0, and those of other entries stay
    ∷ (set_answer full gives Ok tt)
    ∷ (entries_after_set full 8191 0xFFFA0001 gives set full 8191 0x20001)
    ∷ (entries_after_set full 8192 0xFFFFFFFF gives set full 0 0x7ffff)
    ∷ (entries_after_set full 65535 0 gives set full 8191 0)
    ∷ (set_answer (replicate 8191 1) gives Err WrongLength)
    ∷ (entries_after_set (replicate 8191 1) 0 0x7ffff gives replicate 8191 1)
    ∷ []

-- two faults, a map without one, a refused map, a map in boot mode, and a table index set
unfoldable pub faults : List Example
faults =
    let asked =
    ToMap (page 1) 0x0501 false false ∷ ToMap (page 4) 0x0502 false true ∷ ToMap (page 5) 0x0503 true true
    ∷ ToMap [] 0x0504 true true ∷ ToSetBootMode true ∷ ToMap (page 0) 0x0505 true true ∷ ToSetTableIndex 33 ∷ [] in
    (last_fault 7 (history_of (kept 0 false 7) asked) gives 0x0502)
    ∷ (last_state (kept 0 false 7) (history_of (kept 0 false 7) asked) gives kept 1 true 0x0502)
    ∷ (last_fault 7 (history_of (kept 0 false 7) []) gives 7)
    ∷ []

unfoldable pub mups16 : List Example
mups16 = maps ++ reads ++ sets ++ faults
