-- The accepted calls, told by bits, lengths and places alone. Assumes nothing.
use Prim.Native.Nat.{ℕ, ◌+◌, ◌*◌, ◌/◌, ◌%◌, ◌^◌}
use mathlib.Core.Path.{◌≡◌, refl, sym, ap, ◌∙◌}
use mathlib.Core.Bool.{Bool, true, not, ◌&&◌}
use native.Mathlib.Omega.{arith}
use lib.Dec.{eqb}
use lib.ListN.{get_or}
use Rattle.std.specs.Prelude.{Ok}
use Rattle.runs.specs.Bits.{bits, flag}
use Rattle.mups16.specs.Entries.{entries_fit, place_of, page_of}
use Rattle.mups16.specs.States.{index_of}
use Rattle.mups16.specs.Map.{offset, boot_mapping, entry_mapping, state_after}
use Rattle.mups16.specs.Read.{high_word, read_low, read_high}
use Rattle.mups16.specs.Set.{set_answer, entries_after_set}
use Rattle.mups16.specs.InBits.{entry_address, mapping_by, boot_by, AcceptedInBits}
use Rattle.mups16.specs.declared.State.{State}
use Rattle.mups16.specs.declared.Mapping.{Mapping}
use Rattle.mups16.specs.declared.MapReply.{MapReply}
use Rattle.mups16.proofs.Refusing.{given}
use Rattle.mups16.proofs.EntryLaws.{length-fits}
use Rattle.mups16.proofs.MapLaws.{boot-made, entry-made}
use Rattle.mups16.proofs.MapsAlike.{map-gave}

-- the fields of a whole word are those of its 19 bits
flag-of-bits : (k e : ℕ) → bits 18 0 e / 2 ^ k % 2 ≡ e / 2 ^ k % 2 → flag k (bits 18 0 e) ≡ flag k e
flag-of-bits k e = ap (λ (n : ℕ). eqb n 1)

mapped-of-bits : (e : ℕ) → flag 18 (bits 18 0 e) ≡ flag 18 e
mapped-of-bits e = flag-of-bits 18 e (omega arith)

system-of-bits : (e : ℕ) → flag 17 (bits 18 0 e) ≡ flag 17 e
system-of-bits e = flag-of-bits 17 e (omega arith)

writable-of-bits : (e : ℕ) → flag 16 (bits 18 0 e) ≡ flag 16 e
writable-of-bits e = flag-of-bits 16 e (omega arith)

address-of-bits : (e virtual : ℕ) → page_of (bits 18 0 e) * 2 ^ 8 + offset virtual ≡ 256 * bits 15 0 e + bits 7 0 virtual
address-of-bits e virtual = omega arith

pub low-of-bits : (e : ℕ) → bits 15 0 (bits 18 0 e) ≡ bits 15 0 e
low-of-bits e = omega arith

pub high-of-bits : (index e : ℕ) → 256 * index + bits 18 16 (bits 18 0 e) ≡ 256 * index + bits 18 16 e
high-of-bits index e = omega arith

entry-mapping-by : (e virtual : ℕ) (user write : Bool) → entry_mapping (bits 18 0 e) virtual user write ≡ mapping_by e virtual user write
unfolding mapping_by
entry-mapping-by e virtual user write = λ j. record {
  address = address-of-bits e virtual j;
  no_mapping = not (mapped-of-bits e j);
  write_violation = write && not (writable-of-bits e j);
  protection_violation = user && system-of-bits e j;
}

-- bits 19 and up count for nothing
pub mapping-of-bits : (e virtual : ℕ) (user write : Bool) → mapping_by (bits 18 0 e) virtual user write ≡ mapping_by e virtual user write
unfolding mapping_by
mapping-of-bits e virtual user write = λ j. record {
  address = 256 * low-of-bits e j + bits 7 0 virtual;
  no_mapping = not (mapped-of-bits e j);
  write_violation = write && not (writable-of-bits e j);
  protection_violation = user && system-of-bits e j;
}

-- a map without a fault leaves the state
boot-keeps : (s : State) (virtual : ℕ) → state_after s virtual (boot_mapping virtual) ≡ s
boot-keeps s virtual = refl

boot-mapping-by : (virtual : ℕ) → boot_mapping virtual ≡ boot_by virtual
unfolding boot_by
boot-mapping-by virtual = refl

high-word-by : (s : State) (e : ℕ) → high_word (index_of s) (bits 18 0 e) ≡ 256 * bits 4 0 s.table_index + bits 18 16 e
high-word-by s e = omega arith

pub accepted-in-bits : AcceptedInBits
unfolding AcceptedInBits entry_address read_low read_high set_answer entries_after_set
accepted-in-bits entries long = record {
  boot-is = λ s b virtual user write reply g.
      map-gave entries s virtual user write reply fits g
      ∙ ap (λ (m : Mapping). record { answer = Ok m; state = state_after s virtual m })
      (sym (boot-made entries s virtual user write b (boot_mapping virtual) refl))
      ∙ ap (λ (x : State). record { answer = Ok (boot_mapping virtual); state = x }) (boot-keeps s virtual)
      ∙ ap (λ (m : Mapping). record { answer = Ok m; state = s }) (boot-mapping-by virtual);
  map_is = λ s b virtual user write reply g.
      ap (λ (r : MapReply). r.answer) (map-gave entries s virtual user write reply fits g)
      ∙ ap Ok
      (sym (entry-made entries s virtual user write b _ _ refl refl _ refl)
      ∙ entry-mapping-by (get_or entries (entry_address s virtual) 0) virtual user write);
  low-is = λ at answer g. g.answer-is ∙ given entries _ _ fits ∙ ap Ok (low-of-bits (get_or entries (place_of at) 0));
  high_is = λ s at answer g. g.answer-is ∙ given entries _ _ fits ∙ ap Ok (high-word-by s (get_or entries (place_of at) 0));
  set_is = λ at e after answer g. (g.answer-is ∙ given entries _ _ fits, g.entries-are ∙ given entries _ _ fits);
}
  where
    fits : entries_fit entries ≡ true
    fits = length-fits entries long
