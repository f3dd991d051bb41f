-- A C host's start is the unit's. Assumes nothing.
use Prim.Native.Nat.{ℕ, zero, suc}
use mathlib.Core.Path.{◌≡◌, refl, sym, ap, ◌∙◌, subst}
use mathlib.Core.Bool.{true}
use mathlib.Core.List.{List}
use native.Mathlib.Omega.{arith}
use lib.ListN.{get_or, replicate, length-replicate}
use borrow.Author.Tests.{eq-eqb, ne_eqb}
use Rattle.runs.specs.Counts.{all}
use Rattle.wire.specs.Wire.{decoded}
use Rattle.wire.proofs.Elements.{decoded-length}
use Rattle.registers.specs.Fields.{to_words, from_words, field, widths, fits_at, registers_fit, zero_registers}
use Rattle.registers.specs.Refusals.{refuse_unless, by_refusal}
use Rattle.slots.specs.Buffer.{Buffer}
use Rattle.slots.specs.Buffer.Buffer.{Wide}
use Rattle.slots.specs.Start.{empty_first, start_buffer}
use Rattle.slots.proofs.Start.{start_fits}
use Rattle.control.specs.Starting.{start_reply, started_buffer}
use Rattle.control.specs.Starting.{start_refusal as unit_refusal}
use Rattle.mmu_c.specs.Runs.{registers_of, buffer_of}
use Rattle.mmu_c.specs.Answers.{refusal_answer, outcome_answer, reply_answer}
use Rattle.mmu_c.specs.Start.{start_refusal, start_number, start_registers, start_bytes}
use Rattle.mmu_c.proofs.Locations.{buffer-fits}
use Rattle.mmu_c.proofs.StartLaws.{start-any}
use Rattle.hosts.specs.Start.{StartsAreStarts, RefusedStartLeavesAll}
use Rattle.hosts.proofs.Trips.{registers-trip, BufferWithin, slot-within, buffer-trip}

-- what a start leaves goes to bytes and back
zero-fits : registers_fit zero_registers ≡ true
unfolding registers_fit zero_registers from_words to_words field fits_at widths all
zero-fits = refl

zero-at : (n i : ℕ) → ◌≡◌ {A = ℕ} (get_or (replicate n 0) i 0) 0
zero-at zero i = refl
zero-at (suc n) zero = refl
zero-at (suc n) (suc i) = zero-at n i

zeros_within : BufferWithin (Wide (replicate 64 0))
unfolding BufferWithin
zeros_within = λ i l. rw (zero-at 64 i) (omega arith)

first-within : (n : ℕ) (b : Buffer) → BufferWithin b → BufferWithin (empty_first n b)
unfolding empty_first
first-within zero b w = w
first-within (suc n) b w = slot-within (empty_first n b) n _ (first-within n b w)

start-within : (buffer : List ℕ) → BufferWithin (start_buffer (buffer_of buffer))
unfolding start_buffer buffer_of
start-within buffer =
    subst BufferWithin (start-any (replicate 64 0) (decoded 8 buffer 64) (length-replicate {A = ℕ} 64 0) (decoded-length 8 buffer 64))
    (first-within 64 (Wide (replicate 64 0)) zeros_within)

-- the unit's start over such a run is accepted
module _ (buffer : List ℕ) where
  unit-answer : reply_answer (start_reply (buffer_of buffer)) ≡ 0
  unfolding start_reply unit_refusal refuse_unless by_refusal reply_answer outcome_answer
  unit-answer = rw (buffer-fits buffer)

  unit-registers : (start_reply (buffer_of buffer)).registers ≡ zero_registers
  unfolding start_reply unit_refusal refuse_unless by_refusal
  unit-registers = rw (buffer-fits buffer)

  unit-buffer : started_buffer (buffer_of buffer) ≡ start_buffer (buffer_of buffer)
  unfolding started_buffer unit_refusal refuse_unless by_refusal
  unit-buffer = rw (buffer-fits buffer)

pub starts-are-starts : StartsAreStarts
unfolding start_number start_registers start_bytes by_refusal refusal_answer
starts-are-starts registers buffer answer registers-after buffer-after accepted g =
    let z = eq-eqb (start_refusal registers buffer) 0 accepted in
    record {
      answer-is = g.answer-is ∙ ap refusal_answer accepted ∙ sym (unit-answer buffer);
      registers-are =
          ap registers_of (g.registers-are ∙ rw z) ∙ registers-trip zero_registers zero-fits ∙ sym (unit-registers buffer);
      buffer-is =
          ap buffer_of (g.buffer-is ∙ rw z)
          ∙ buffer-trip (start_buffer (buffer_of buffer)) (start_fits (buffer_of buffer) ∙ buffer-fits buffer) (start-within buffer)
          ∙ sym (unit-buffer buffer);
    }

pub refused-start-leaves-all : RefusedStartLeavesAll
unfolding start_number start_registers start_bytes by_refusal
refused-start-leaves-all registers buffer answer registers-after buffer-after no' g =
    let e = ne_eqb (start_refusal registers buffer) 0 no' in
    record { answer-is = g.answer-is; registers-are = g.registers-are ∙ rw e; buffer-is = g.buffer-is ∙ rw e }
