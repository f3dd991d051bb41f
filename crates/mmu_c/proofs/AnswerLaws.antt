-- The bits of an answer. Assumes nothing.
use Prim.Native.Nat.{ℕ, ◌+◌, ◌*◌, ◌<◌}
use mathlib.Core.Path.{◌≡◌, sym, ◌∙◌}
use mathlib.Core.Bool.{Bool, true, false}
use native.Mathlib.Omega.{arith}
use borrow.Author.Tests.{ltb-true}
use Rattle.std.specs.Prelude.{Some, None}
use Rattle.runs.specs.Bits.{bit}
use Rattle.registers.specs.Refusals.{refuse_unless, machine_refusal}
use Rattle.registers.specs.declared.Outcome.{Outcome}
use Rattle.registers.specs.declared.Outcome.TheVariants.{At, Fault, Done, Refused}
use Rattle.registers.specs.declared.Reply.{Reply}
use Rattle.access.specs.declared.Translation.{Translation}
use Rattle.mmu_c.specs.Answers.{refusal_answer, access_answer, raw_answer, translation_answer, outcome_answer, reply_answer, outcome_fits}

-- the sum that the code makes
pub answer-sum : (address value loads : ℕ) (located interrupts exception : Bool) (l i e : ℕ) → l ≡ bit located → i ≡ bit interrupts
    → e ≡ bit exception
    → address + value * 4294967296 + loads * 281474976710656 + (l * 4503599627370496 + i * 9007199254740992 + e * 18014398509481984)
    ≡ access_answer address value loads located interrupts exception
unfolding access_answer
answer-sum address value loads located interrupts exception l i e p q s = rw (← p, ← q, ← s) (omega arith)

-- a raw access's answer by its physical address
module _ (t : Translation) (n : ℕ) where
  pub answer-address : (address : ℕ) → t.physical ≡ Some address
      → n ≡ access_answer address t.value 0 true t.interrupt t.exception → n ≡ translation_answer t
  unfolding translation_answer raw_answer
  answer-address address h q = q ∙ sym (rw h)

  pub answer-none : t.physical ≡ None → n ≡ access_answer 0 t.value 0 false t.interrupt t.exception → n ≡ translation_answer t
  unfolding translation_answer raw_answer
  answer-none h q = q ∙ sym (rw h)

-- a reply's answer by its outcome
module _ (reply : Reply) (n : ℕ) where
  pub answer_at : (address : ℕ) → reply.outcome ≡ At address → n ≡ access_answer address 0 reply.loads true false false
      → n ≡ reply_answer reply
  unfolding reply_answer outcome_answer
  answer_at address h q = q ∙ sym (rw h)

  pub answer-fault : (value : ℕ) → reply.outcome ≡ Fault value → n ≡ access_answer 0 value reply.loads false false true
      → n ≡ reply_answer reply
  unfolding reply_answer outcome_answer
  answer-fault value h q = q ∙ sym (rw h)

  pub answer-done : (emptied : ℕ) → reply.outcome ≡ Done emptied → n ≡ emptied → n ≡ reply_answer reply
  unfolding reply_answer outcome_answer
  answer-done emptied h q = q ∙ sym (rw h)

  pub answer-refused : (number : ℕ) → reply.outcome ≡ Refused number → n ≡ refusal_answer number → n ≡ reply_answer reply
  unfolding reply_answer outcome_answer
  answer-refused number h q = q ∙ sym (rw h)

-- an outcome that fits tells that its number does
module _ (outcome : Outcome) (fits : outcome_fits outcome ≡ true) where
  pub fault-room : (value : ℕ) → outcome ≡ Fault value → value < 65536
  unfolding outcome_fits
  fault-room value h = ltb-true value 65536 (sym (rw h) ∙ fits)

  pub refused-room : (number : ℕ) → outcome ≡ Refused number → number < 256
  unfolding outcome_fits
  refused-room number h = ltb-true number 256 (sym (rw h) ∙ fits)

-- a refusal's number has room in its bits
pub refusal-room : (test : Bool) (number later : ℕ) → number < 256 → later < 256 → refuse_unless test number later < 256
unfolding refuse_unless
refusal-room true number later l m = m
refusal-room false number later l m = l

pub machine-room : (registers buffer tables : Bool) (later : ℕ) → later < 256 → machine_refusal registers buffer tables later < 256
machine-room registers buffer tables later l =
    refusal-room registers 1 _ (omega arith) (refusal-room buffer 2 _ (omega arith) (refusal-room tables 3 later (omega arith) l))
