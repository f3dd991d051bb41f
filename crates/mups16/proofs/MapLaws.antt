-- The ways through a map: premises are the tests and what the callees gave, in the order of the code. Assumes nothing.
use Prim.Native.Nat.{ℕ}
use mathlib.Core.Path.{◌≡◌, refl, sym, ap, ◌∙◌}
use mathlib.Core.Bool.{Bool, true, false, cond}
use mathlib.Core.Logic.{◌≢◌}
use mathlib.Core.List.{List}
use lib.ListN.{length}
use Rattle.std.specs.Prelude.{Ok, Err}
use Rattle.mups16.specs.Answers.{refusal_of}
use Rattle.mups16.specs.Entries.{entry_at}
use Rattle.mups16.specs.Map.{boot_mapping, map_place, entry_mapping, mapping_of, state_after, map_reply, MapGives}
use Rattle.mups16.specs.declared.State.{State}
use Rattle.mups16.specs.declared.refusal.Refusal.{Refusal}
use Rattle.mups16.specs.declared.refusal.Refusal.TheVariants.{WrongLength}
use Rattle.mups16.specs.declared.Mapping.{Mapping}
use Rattle.mups16.specs.declared.MapReply.{MapReply}
use Rattle.mups16.proofs.EntryLaws.{length-fits, length-wrong}
use Rattle.mups16.proofs.Refusing.{told, given, not-given}

module _ (entries : List ℕ) (s : State) (virtual : ℕ) (user write : Bool) where
  pub map_gives : (reply : MapReply) → reply ≡ map_reply entries s virtual user write → MapGives entries s virtual user write reply
  unfolding map_reply refusal_of
  map_gives reply q = record {
    refusal_is = ap (λ (r : MapReply). refusal_of r.answer) q ∙ told (λ (r : MapReply). r.answer) entries _ _ refl refl;
    reply-is = q;
  }

  -- the mapping in boot mode, and the one by an entry
  pub boot-made : s.boot_mode ≡ true → (m : Mapping) → m ≡ boot_mapping virtual → m ≡ mapping_of entries s virtual user write
  unfolding mapping_of
  boot-made b m q =
      q ∙ sym (ap (λ (c : Bool). cond c (boot_mapping virtual) (entry_mapping (entry_at entries (map_place s virtual)) virtual user write)) b)

  pub entry-made : s.boot_mode ≡ false → (place e : ℕ) → place ≡ map_place s virtual → e ≡ entry_at entries place → (m : Mapping)
      → m ≡ entry_mapping e virtual user write → m ≡ mapping_of entries s virtual user write
  unfolding mapping_of
  entry-made b place e pq eq m q =
      q
      ∙ ap (λ (n : ℕ). entry_mapping n virtual user write) (eq ∙ ap (entry_at entries) pq)
      ∙ sym (ap (λ (c : Bool). cond c (boot_mapping virtual) (entry_mapping (entry_at entries (map_place s virtual)) virtual user write)) b)

  pub map-refused : length entries ≢ 8192 → (refusal : Refusal) → refusal ≡ WrongLength
      → MapGives entries s virtual user write (record { answer = Err refusal; state = s })
  unfolding map_reply
  map-refused d refusal q =
      map_gives _
      (ap (λ (x : Refusal). record { answer = Err x; state = s }) q ∙ sym (not-given entries _ _ (length-wrong entries d)))

  pub map-done : length entries ≡ 8192 → (run : List ℕ) → run ≡ entries → (m : Mapping) → m ≡ mapping_of run s virtual user write
      → (after : State) → after ≡ state_after s virtual m
      → MapGives entries s virtual user write (record { answer = Ok m; state = after })
  unfolding map_reply
  map-done long run same m q after aq =
      map_gives _
      (ap (λ (x : State). record { answer = Ok m; state = x }) aq
      ∙ ap (λ (n : Mapping). record { answer = Ok n; state = state_after s virtual n })
      (q ∙ ap (λ (l : List ℕ). mapping_of l s virtual user write) same)
      ∙ sym (given entries _ _ (length-fits entries long)))
