-- What is set is mapped, and no map by another entry changes.
use Rattle.std.specs.Prelude.{ℕ, ◌≡◌, ◌≢◌, Bool, false, List, length, Result, Ok}
use Rattle.runs.specs.Bits.{bits}
use Rattle.mups16.specs.Map.{MapGives}
use Rattle.mups16.specs.Set.{SetEntryGives}
use Rattle.mups16.specs.InBits.{entry_address, mapping_by}
use Rattle.mups16.specs.declared.State.{State}
use Rattle.mups16.specs.declared.refusal.Refusal.{Refusal}
use Rattle.mups16.specs.declared.MapReply.{MapReply}

-- a map after e was set at an entry address: where it is the map's own, e decides address and faults, else all is as before
pub record MappedAfterSet (before after : List ℕ) (set_at e : ℕ) (s : State) (virtual : ℕ) (user write : Bool) : Type 0 where
  pub own : entry_address s virtual ≡ bits 12 0 set_at → s.boot_mode ≡ false → (reply : MapReply)
      → MapGives after s virtual user write reply → reply.answer ≡ Ok (mapping_by e virtual user write)
  pub other : entry_address s virtual ≢ bits 12 0 set_at → (old new : MapReply) → MapGives before s virtual user write old
      → MapGives after s virtual user write new → new ≡ old

-- after every set over a run of 8,192: such a set is accepted
unfoldable pub SetIsMapped : Type 0
SetIsMapped =
    (before after : List ℕ) (set_at e : ℕ) (answer : Result (Unit {0}) Refusal) → SetEntryGives before set_at e after answer → length before ≡ 8192
    → (s : State) (virtual : ℕ) (user write : Bool) → MappedAfterSet before after set_at e s virtual user write
