-- A call whose run is not 8,192 long is refused, and changes nothing. Assumes nothing.
use mathlib.Core.Path.{◌≡◌, ap, ◌∙◌}
use mathlib.Core.Bool.{false}
use Rattle.std.specs.Prelude.{Result, Err}
use Rattle.mups16.specs.Answers.{refusal_of}
use Rattle.mups16.specs.Entries.{entries_fit}
use Rattle.mups16.specs.Map.{map_reply}
use Rattle.mups16.specs.Read.{read_low, read_high}
use Rattle.mups16.specs.Set.{set_answer, entries_after_set}
use Rattle.mups16.specs.Refused.{WrongLengthRefused}
use Rattle.mups16.specs.declared.refusal.Refusal.{Refusal}
use Rattle.mups16.specs.declared.refusal.Refusal.TheVariants.{WrongLength}
use Rattle.mups16.specs.declared.MapReply.{MapReply}
use Rattle.mups16.proofs.Refusing.{not-given}
use Rattle.mups16.proofs.EntryLaws.{length-wrong}

-- a refusal, and its number
numbered : {A : Type 0} (answer : Result A Refusal) → answer ≡ Err WrongLength → (answer ≡ Err WrongLength) × (refusal_of answer ≡ 2)
unfolding refusal_of
numbered answer q = (q, ap refusal_of q)

pub wrong-length-refused : WrongLengthRefused
unfolding WrongLengthRefused map_reply read_low read_high set_answer entries_after_set
wrong-length-refused entries d = record {
  map_is = λ s virtual user write reply g.
      let q : reply ≡ record { answer = Err WrongLength; state = s } = g.reply-is ∙ not-given entries _ _ unfit in
      (q, (numbered reply.answer (ap (λ (r : MapReply). r.answer) q)).1);
  low-is = λ at answer g. numbered answer (g.answer-is ∙ not-given entries _ _ unfit);
  high_is = λ s at answer g. numbered answer (g.answer-is ∙ not-given entries _ _ unfit);
  set_is = λ at e after answer g.
      let q : (answer ≡ Err WrongLength) × (refusal_of answer ≡ 2) = numbered answer (g.answer-is ∙ not-given entries _ _ unfit) in
      (q.0, q.1, g.entries-are ∙ not-given entries _ _ unfit);
}
  where
    unfit : entries_fit entries ≡ false
    unfit = length-wrong entries d
