-- The accepted calls told by bits, lengths and places alone. The definitions that code and contracts share are not named here, so that a
-- wrong one shows.
use Rattle.std.specs.Prelude.{ℕ, ◌+◌, ◌*◌, ◌≡◌, Bool, true, false, not, ◌&&◌, List, length, get_or, set, Result, Ok}
use Rattle.runs.specs.Bits.{bits, flag}
use Rattle.mups16.specs.Map.{MapGives}
use Rattle.mups16.specs.Read.{ReadLowGives, ReadHighGives}
use Rattle.mups16.specs.Set.{SetEntryGives}
use Rattle.mups16.specs.declared.State.{State}
use Rattle.mups16.specs.declared.Mapping.{Mapping}
use Rattle.mups16.specs.declared.refusal.Refusal.{Refusal}
use Rattle.mups16.specs.declared.MapReply.{MapReply}

-- the entry address of a map: the table index above the upper eight bits of the virtual address
unfoldable pub entry_address : State → (virtual : ℕ) → ℕ
entry_address s virtual = 256 * bits 4 0 s.table_index + bits 15 8 virtual

-- what an entry makes of a virtual address
unfoldable pub mapping_by : (e virtual : ℕ) (user write : Bool) → Mapping
mapping_by e virtual user write = record {
  address = 256 * bits 15 0 e + bits 7 0 virtual;
  no_mapping = not (flag 18 e);
  write_violation = write && not (flag 16 e);
  protection_violation = user && flag 17 e;
}

-- what boot mode makes of it
unfoldable pub boot_by : (virtual : ℕ) → Mapping
boot_by virtual = record {
  address = 0x800000 + virtual;
  no_mapping = false;
  write_violation = false;
  protection_violation = false;
}

pub record InBits (entries : List ℕ) : Type 0 where
  pub boot-is : (s : State) → s.boot_mode ≡ true → (virtual : ℕ) (user write : Bool) (reply : MapReply)
      → MapGives entries s virtual user write reply → reply ≡ record { answer = Ok (boot_by virtual); state = s }
  pub map_is : (s : State) → s.boot_mode ≡ false → (virtual : ℕ) (user write : Bool) (reply : MapReply)
      → MapGives entries s virtual user write reply
      → reply.answer ≡ Ok (mapping_by (get_or entries (entry_address s virtual) 0) virtual user write)
  pub low-is : (at : ℕ) (answer : Result ℕ Refusal) → ReadLowGives entries at answer → answer ≡ Ok (bits 15 0 (get_or entries (bits 12 0 at) 0))
  pub high_is : (s : State) (at : ℕ) (answer : Result ℕ Refusal) → ReadHighGives entries s at answer
      → answer ≡ Ok (256 * bits 4 0 s.table_index + bits 18 16 (get_or entries (bits 12 0 at) 0))
  pub set_is : (at e : ℕ) (after : List ℕ) (answer : Result (Unit {0}) Refusal) → SetEntryGives entries at e after answer
      → (answer ≡ Ok tt) × (after ≡ set entries (bits 12 0 at) (bits 18 0 e))

unfoldable pub AcceptedInBits : Type 0
AcceptedInBits = (entries : List ℕ) → length entries ≡ 8192 → InBits entries
