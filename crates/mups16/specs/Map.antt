-- Operation 0, map. A virtual address is a page, its upper eight bits, and an offset, its lower eight.
use Rattle.std.specs.Prelude.{ℕ, ◌+◌, ◌*◌, ◌^◌, ◌≡◌, Bool, false, cond, List, Ok}
use Rattle.runs.specs.Bits.{bits}
use Rattle.mups16.specs.Answers.{refusal_of, wrong_length, refusal, by_entries}
use Rattle.mups16.specs.Entries.{entry_at, page_of}
use Rattle.mups16.specs.States.{index_of, with_fault}
use Rattle.mups16.specs.Faults.{no_mapping, write_violation, protection_violation, has_fault}
use Rattle.mups16.specs.declared.State.{State}
use Rattle.mups16.specs.declared.Mapping.{Mapping}
use Rattle.mups16.specs.declared.MapReply.{MapReply}

abbrev pub virtual_page : (virtual : ℕ) → ℕ
virtual_page virtual = bits 15 8 virtual

abbrev pub offset : (virtual : ℕ) → ℕ
offset virtual = bits 7 0 virtual

-- "boot mode with 80 hex in the top byte": no entry is looked at, and nothing faults
abbrev pub boot_mapping : (virtual : ℕ) → Mapping
boot_mapping virtual = record {
  address = 0x80 * 2 ^ 16 + virtual;
  no_mapping = false;
  write_violation = false;
  protection_violation = false;
}

-- the entry that a map looks at: that of its page in the table of the index
abbrev pub map_place : State → (virtual : ℕ) → ℕ
map_place s virtual = 256 * index_of s + virtual_page virtual

-- a map by an entry: the physical page above the offset, whatever the faults are
abbrev pub entry_mapping : (e virtual : ℕ) (user write : Bool) → Mapping
entry_mapping e virtual user write = record {
  address = page_of e * 2 ^ 8 + offset virtual;
  no_mapping = no_mapping e;
  write_violation = write_violation e write;
  protection_violation = protection_violation e user;
}

unfoldable pub mapping_of : (entries : List ℕ) → State → (virtual : ℕ) (user write : Bool) → Mapping
mapping_of entries s virtual user write =
    cond s.boot_mode (boot_mapping virtual) (entry_mapping (entry_at entries (map_place s virtual)) virtual user write)

-- "the fault address kept from the last fault"
abbrev pub state_after : State → (virtual : ℕ) → Mapping → State
state_after s virtual m = with_fault (cond (has_fault m) virtual s.fault_address) s

unfoldable pub map_reply : (entries : List ℕ) → State → (virtual : ℕ) (user write : Bool) → MapReply
map_reply entries s virtual user write =
    let m = mapping_of entries s virtual user write in
    by_entries entries (record { answer = Ok m; state = state_after s virtual m }) (record { answer = wrong_length; state = s })

-- what the call promises
pub record MapGives (entries : List ℕ) (s : State) (virtual : ℕ) (user write : Bool) (reply : MapReply) : Type 0 where
  pub refusal_is : refusal_of reply.answer ≡ refusal entries
  pub reply-is : reply ≡ map_reply entries s virtual user write
