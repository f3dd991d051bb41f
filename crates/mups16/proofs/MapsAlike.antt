-- Two maps with the same mapping give the same reply, and the entry that a map looks at gives its mapping. Assumes nothing.
use Prim.Native.Nat.{ℕ}
use mathlib.Core.Path.{◌≡◌, sym, ap, ◌∙◌}
use mathlib.Core.Bool.{Bool, true, cond}
use mathlib.Core.List.{List}
use Rattle.std.specs.Prelude.{Ok}
use Rattle.mups16.specs.Entries.{entries_fit, entry_at}
use Rattle.mups16.specs.Map.{boot_mapping, map_place, entry_mapping, mapping_of, state_after, map_reply, MapGives}
use Rattle.mups16.specs.declared.State.{State}
use Rattle.mups16.specs.declared.Mapping.{Mapping}
use Rattle.mups16.specs.declared.MapReply.{MapReply}
use Rattle.mups16.proofs.Refusing.{given}

-- a map's reply over a run that fits
pub map-gave : (entries : List ℕ) (s : State) (virtual : ℕ) (user write : Bool) (reply : MapReply) → entries_fit entries ≡ true
    → MapGives entries s virtual user write reply
    → reply ≡ (let m = mapping_of entries s virtual user write in record { answer = Ok m; state = state_after s virtual m })
unfolding map_reply
map-gave entries s virtual user write reply fits g = g.reply-is ∙ given entries _ _ fits

module _ (s : State) (a b : List ℕ) where
  pub maps-alike : entries_fit a ≡ true → entries_fit b ≡ true → (virtual : ℕ) (user write : Bool)
      → mapping_of a s virtual user write ≡ mapping_of b s virtual user write → (r q : MapReply)
      → MapGives a s virtual user write r → MapGives b s virtual user write q → r ≡ q
  maps-alike a-fits b-fits virtual user write same r q rg qg =
      map-gave a s virtual user write r a-fits rg
      ∙ ap (λ (m : Mapping). record { answer = Ok m; state = state_after s virtual m }) same
      ∙ sym (map-gave b s virtual user write q b-fits qg)

  pub same-entry : (virtual : ℕ) (user write : Bool) → entry_at a (map_place s virtual) ≡ entry_at b (map_place s virtual)
      → mapping_of a s virtual user write ≡ mapping_of b s virtual user write
  unfolding mapping_of
  same-entry virtual user write =
      ap (λ (e : ℕ). cond s.boot_mode (boot_mapping virtual) (entry_mapping e virtual user write))
