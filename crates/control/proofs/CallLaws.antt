-- What calls that are not refused were handed, and the ways through a start and a register write. Assumes nothing.
use Prim.Native.Nat.{ℕ, ◌/◌, ◌%◌, ◌<◌}
use mathlib.Core.Path.{◌≡◌, refl, sym, ap, ◌∙◌}
use mathlib.Core.Bool.{Bool, true, false, not}
use native.Mathlib.Omega.{arith}
use borrow.Author.Tests.{ltb-true, leb-true, eq-eqb, ne_eqb, not-false}
use Rattle.runs.proofs.Bits.{bits-low}
use Rattle.entry.specs.Entry.{join}
use Rattle.registers.specs.Fields.{put, widths, fits_at, registers_fit, zero_registers}
use Rattle.registers.specs.Replies.{refusal_of, refused, done}
use Rattle.registers.proofs.RefusalLaws.{passed, refuse-here, refuse-later, when-accepted, when-refused, reply-refusal}
use Rattle.registers.specs.declared.Registers.{Registers}
use Rattle.registers.specs.declared.Reply.{Reply}
use Rattle.slots.specs.Buffer.{Buffer, buffer_fits, with_slot}
use Rattle.slots.specs.Start.{start_buffer}
use Rattle.control.specs.Starting.{start_refusal, start_reply, started_buffer, StartGives}
use Rattle.control.specs.Halves.{entry_from}
use Rattle.control.specs.Writing.{write_refusal, written_entry, written_buffer, write_reply, buffer_after_write, WriteGives}
use Rattle.control.specs.Setting.{is_guarded, switch_fits, argument_refusal, setting_refusal, setting_reply, GuardedSettingGives}
use Rattle.control.proofs.NumberLaws.{NumberAccepted, number_passed}

pub guarded-below : (number : ℕ) (t : Bool) → t ≡ is_guarded number → not t ≡ false → number < 11
unfolding is_guarded
guarded-below number t q h = omega (arith, leb-true number 5 (sym q ∙ not-false t h))

pub setting-accepted : (r : Registers) (number value : ℕ) → setting_refusal r number value ≡ 0 → number < 11
unfolding setting_refusal argument_refusal
setting-accepted r number value h =
    let one = passed (registers_fit r) 1 _ (λ e. omega arith) h in
    let five = passed (switch_fits number value) 5 _ (λ e. omega arith) one.1 in
    let known = passed (is_guarded number) 7 _ (λ e. omega arith) five.1 in
    guarded-below number true (sym known.0) refl

-- what an accepted write was handed
pub write-accepted : (r : Registers) (b : Buffer) (number value : ℕ) → write_refusal r b number value ≡ 0
    → NumberAccepted r b number × (fits_at number value ≡ true)
unfolding write_refusal
write-accepted r b number value h =
    let handed = number_passed r b number _ h in
    (handed.0, (passed (fits_at number value) 7 _ (λ e. omega arith) handed.1).0)

pub low-lt : (number value : ℕ) → number ≡ 8 → fits_at number value ≡ true → value < 8388608
unfolding fits_at widths
low-lt number value e h = ltb-true value 8388608 (rw e at h)

-- the two ways through the write's part on the buffer
module _ (r : Registers) (b : Buffer) (number value : ℕ) where
  pub stores : (after : Buffer) (e : ℕ) → number ≡ 8 → e ≡ join (r.tlb_hi / 1024 % 32768) (r.tlb_hi % 64) value
      → after ≡ with_slot b r.select e → after ≡ written_buffer r b number value
  unfolding written_buffer written_entry entry_from
  stores after e n j q = q ∙ rw j (sym (rw (eq-eqb number 8 n, bits-low 5 r.tlb_hi)))

  pub stores-none : (number ≡ 8 → ⊥) → b ≡ written_buffer r b number value
  unfolding written_buffer
  stores-none n = sym (rw (ne_eqb number 8 n))

-- what each reply promises
pub start_gives : (b after : Buffer) (reply : Reply) → reply ≡ start_reply b → after ≡ started_buffer b → StartGives b after reply
unfolding start_reply
start_gives b after reply q e = record {
  refusal_is = ap (λ (s : Reply). refusal_of s.outcome) q ∙ reply-refusal (start_refusal b) 0 zero_registers zero_registers;
  reply-is = q;
  buffer-is = e;
}

pub write-gives : (r : Registers) (b after : Buffer) (number value : ℕ) (reply : Reply) → reply ≡ write_reply r b number value
    → after ≡ buffer_after_write r b number value → WriteGives r b after number value reply
unfolding write_reply
write-gives r b after number value reply q e = record {
  refusal_is = ap (λ (s : Reply). refusal_of s.outcome) q ∙ reply-refusal (write_refusal r b number value) 0 (put r number value) r;
  reply-is = q;
  buffer-is = e;
}

pub setting-gives : (r : Registers) (number value : ℕ) (reply : Reply) → reply ≡ setting_reply r number value
    → GuardedSettingGives r number value reply
unfolding setting_reply
setting-gives r number value reply q = record {
  refusal_is = ap (λ (s : Reply). refusal_of s.outcome) q ∙ reply-refusal (setting_refusal r number value) 0 (put r number value) r;
  reply-is = q;
}

-- the two ways through a start
module _ (b : Buffer) (t : Bool) (r : Registers) (reply : Reply) (tq : t ≡ buffer_fits b) (rq : r ≡ zero_registers) where
  pub start-refused : not t ≡ true → reply ≡ refused r 2 → StartGives b b reply
  unfolding start_refusal start_reply started_buffer
  start-refused h q =
      let two = refuse-here (buffer_fits b) t 2 0 tq h in
      start_gives b b reply
      (when-refused _ 2 two _ _ _ (λ e. omega arith) (q ∙ rw (rq, ← two) refl))
      (when-refused _ 2 two _ _ _ (λ e. omega arith) refl)

  pub start-done : (after : Buffer) → not t ≡ false → reply ≡ done r 0 → after ≡ start_buffer b → StartGives b after reply
  unfolding start_refusal start_reply started_buffer
  start-done after h q e =
      let none = refuse-later (buffer_fits b) t 2 0 tq 0 h refl in
      start_gives b after reply (when-accepted _ 0 none _ _ _ refl (q ∙ rw rq refl)) (when-accepted _ 0 none _ _ _ refl e)
