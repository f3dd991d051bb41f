-- What a read that is not refused was handed, and the ways through it. Assumes nothing.
use Prim.Native.Nat.{ℕ, ◌<◌}
use mathlib.Core.Path.{◌≡◌, sym, ap, ◌∙◌}
use mathlib.Core.Bool.{true}
use borrow.Author.Tests.{ne_eqb}
use Rattle.registers.specs.Fields.{field}
use Rattle.registers.specs.Replies.{refusal_of}
use Rattle.registers.proofs.RefusalLaws.{reply-refusal}
use Rattle.registers.specs.declared.Registers.{Registers}
use Rattle.registers.specs.declared.Reply.{Reply}
use Rattle.slots.specs.Buffer.{Buffer, buffer_fits, slot_at}
use Rattle.control.specs.Halves.{hi_of, lo_of}
use Rattle.control.specs.Reading.{read_refusal, read_value, read_reply, ReadGives}
use Rattle.control.proofs.NumberLaws.{NumberAccepted, number_passed, select-lt}

pub read-accepted : (r : Registers) (b : Buffer) (number : ℕ) → read_refusal r b number ≡ 0 → NumberAccepted r b number
unfolding read_refusal
read-accepted r b number h = (number_passed r b number 0 h).0

-- the entry read is in the buffer
pub entry-there : (r : Registers) (b : Buffer) (number : ℕ) → read_refusal r b number ≡ 0 → (buffer_fits b ≡ true) × (r.select < 64)
entry-there r b number h =
    let a = read-accepted r b number h in
    (a.buffer-fits, select-lt r a.registers-fit)

-- the three ways to a value
module _ (r : Registers) (b : Buffer) (number v : ℕ) where
  pub reads-hi : (e : ℕ) → number ≡ 7 → e ≡ slot_at b r.select → v ≡ hi_of r.select e → v ≡ read_value r b number
  unfolding read_value
  reads-hi e n s q = rw n (q ∙ ap (hi_of r.select) s)

  pub reads-lo : (e : ℕ) → number ≡ 8 → e ≡ slot_at b r.select → v ≡ lo_of e → v ≡ read_value r b number
  unfolding read_value
  reads-lo e n s q = rw n (q ∙ ap lo_of s)

  pub reads-field : (number ≡ 7 → ⊥) → (number ≡ 8 → ⊥) → v ≡ field r number → v ≡ read_value r b number
  unfolding read_value
  reads-field m n q = q ∙ sym (rw (ne_eqb number 7 m, ne_eqb number 8 n))

-- what the reply promises
pub read-gives : (r : Registers) (b : Buffer) (number : ℕ) (reply : Reply) → reply ≡ read_reply r b number → ReadGives r b number reply
unfolding read_reply
read-gives r b number reply q = record {
  refusal_is = ap (λ (s : Reply). refusal_of s.outcome) q ∙ reply-refusal (read_refusal r b number) _ _ r;
  reply-is = q;
}
