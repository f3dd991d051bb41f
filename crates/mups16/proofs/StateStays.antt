-- What the calls leave of the state. Assumes nothing.
use Prim.Native.Nat.{ℕ}
use mathlib.Core.Path.{◌≡◌, refl, ap, ◌∙◌}
use mathlib.Core.Bool.{Bool, true, false, cond}
use mathlib.Core.List.{List}
use Rattle.std.specs.Prelude.{Ok}
use Rattle.mups16.specs.Answers.{wrong_length, by_entries}
use Rattle.mups16.specs.Entries.{entries_fit}
use Rattle.mups16.specs.States.{with_fault}
use Rattle.mups16.specs.Map.{mapping_of, state_after, map_reply}
use Rattle.mups16.specs.StateStays.{StateStays}
use Rattle.mups16.specs.declared.State.{State}
use Rattle.mups16.specs.declared.Mapping.{Mapping}
use Rattle.mups16.specs.declared.MapReply.{MapReply}

-- a map's reply has in its state what it was handed, as far as that is not the fault address
left_alone : {A : Type 0} (part : State → A) → ((s : State) (fault : ℕ) → part (with_fault fault s) ≡ part s) → (entries : List ℕ)
    (s : State) (virtual : ℕ) (user write : Bool) → part (map_reply entries s virtual user write).state ≡ part s
unfolding map_reply by_entries
left_alone {A} part same entries s virtual user write = by-run (entries_fit entries) (mapping_of entries s virtual user write)
  where
    left : MapReply → A
    left r = part r.state

    by-run : (b : Bool) (m : Mapping)
        → left (cond b (record { answer = Ok m; state = state_after s virtual m }) (record { answer = wrong_length; state = s })) ≡ part s
    by-run true m = same s _
    by-run false m = refl

pub state-stays : StateStays
unfolding StateStays
state-stays s = record {
  map-index = λ entries virtual user write reply g.
      ap (λ (r : MapReply). r.state.table_index) g.reply-is
      ∙ left_alone (λ (q : State). q.table_index) (λ q fault. refl) entries s virtual user write;
  map-boot-mode = λ entries virtual user write reply g.
      ap (λ (r : MapReply). r.state.boot_mode) g.reply-is
      ∙ left_alone (λ (q : State). q.boot_mode) (λ q fault. refl) entries s virtual user write;
  set-index = λ index after g. g.state-is;
}
