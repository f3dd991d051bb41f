-- A C host's raw access is the unit's. Assumes nothing.
use Prim.Native.Nat.{ℕ}
use mathlib.Core.Path.{◌≡◌, refl, ap, ◌∙◌}
use mathlib.Core.Bool.{Bool, true, false, cond, ◌&&◌}
use mathlib.Core.List.{List}
use lib.Dec.{eqb}
use borrow.Author.Tests.{eqb-true, ne_eqb}
use native.Mathlib.Omega.{arith}
use Rattle.runs.proofs.Bools.{both, clash}
use Rattle.registers.specs.Fields.{registers_fit}
use Rattle.registers.specs.Refusals.{by_refusal, draw_fits}
use Rattle.registers.specs.declared.Access.{Access}
use Rattle.registers.specs.declared.Registers.{Registers}
use Rattle.registers.proofs.RefusalLaws.{passed}
use Rattle.slots.specs.Buffer.{Buffer, buffer_fits}
use Rattle.access.specs.Translation.{Accepted, translate}
use Rattle.access.proofs.Keeping.{translate-fits}
use Rattle.mmu.specs.RawAccess.{raw_reply}
use Rattle.mmu.specs.RawAccess.{raw_refusal as unit_refusal}
use Rattle.std.specs.Prelude.{Ok}
use Rattle.mmu.specs.RawAccess.{raw_refused}
use Rattle.mmu_c.specs.Runs.{registers_of, register_bytes, buffer_of, registers_long, registers_taken, buffer_taken}
use Rattle.mmu_c.specs.Answers.{refusal_answer, translation_answer}
use Rattle.mmu_c.specs.RawAccess.{raw_refusal, translation, raw_number, raw_registers}
use Rattle.mmu_c.proofs.Locations.{buffer-fits}
use Rattle.hosts.specs.RawAccess.{raw_reply_answer, registers_replied, RawAccessesAreRawAccesses, RefusedRawAccessLeavesAll}
use Rattle.hosts.specs.RawAccess.{WrongRawLengthsRefused}
use Rattle.hosts.proofs.Handed.{refused-within, taken-long}
use Rattle.hosts.proofs.Trips.{registers-trip}

-- what an accepted raw access was handed
raw-accepted : (r : Registers) (b : Buffer) (a : Access) → unit_refusal r b a ≡ 0 → Accepted r b a
unfolding unit_refusal
raw-accepted r b a z =
    let one = passed (registers_fit r) 1 _ (λ e. omega arith) z in
    let two = passed (buffer_fits b) 2 _ (λ e. omega arith) one.1 in
    let four = passed (draw_fits a.draw) 4 0 (λ e. omega arith) two.1 in
    record { registers-fit = one.0; buffer-fits = two.0; draw-fits = four.0 }

module _ (registers buffer : List ℕ) (a : Access) (w : registers_long registers && buffer_taken buffer ≡ true) where
  abbrev r : Registers
  r = registers_of registers

  abbrev b : Buffer
  b = buffer_of buffer

  same : raw_refusal registers buffer a ≡ unit_refusal r b a
  unfolding raw_refusal unit_refusal registers_taken
  same =
      let t = both (registers_long registers) (buffer_taken buffer) w in
      rw (t.0, t.1, buffer-fits buffer)

  number_is : raw_number registers buffer a ≡ raw_reply_answer (raw_reply r b a)
  unfolding raw_number raw_reply translation by_refusal raw_reply_answer
  number_is =
      ap (λ (n : ℕ). by_refusal n (translation_answer (translate r b a)) (refusal_answer n)) same ∙ by-test (eqb (unit_refusal r b a) 0)
    where
      by-test : (t : Bool) → cond t (translation_answer (translate r b a)) (refusal_answer (unit_refusal r b a))
          ≡ raw_reply_answer (cond t (Ok (translate r b a)) (raw_refused (unit_refusal r b a) r))
      by-test true = refl
      by-test false = refl

  registers-is : registers_of (raw_registers registers buffer a) ≡ registers_replied (raw_reply r b a)
  unfolding raw_registers raw_reply translation by_refusal registers_replied
  registers-is =
      ap (λ (n : ℕ). registers_of (by_refusal n (register_bytes (translate r b a).registers) registers)) same
      ∙ by-test (eqb (unit_refusal r b a) 0) refl
    where
      by-test : (t : Bool) → eqb (unit_refusal r b a) 0 ≡ t
          → registers_of (cond t (register_bytes (translate r b a).registers) registers)
          ≡ registers_replied (cond t (Ok (translate r b a)) (raw_refused (unit_refusal r b a) r))
      by-test true e =
          registers-trip (translate r b a).registers
          (translate-fits r b a (raw-accepted r b a (eqb-true (unit_refusal r b a) 0 e)))
      by-test false e = refl

pub raw-accesses-are-raw-accesses : RawAccessesAreRawAccesses
raw-accesses-are-raw-accesses registers buffer a answer registers-after w g = record {
  answer-is = g.answer-is ∙ number_is registers buffer a w;
  registers-are = ap registers_of g.registers-are ∙ registers-is registers buffer a w;
}

pub wrong-raw-lengths-refused : WrongRawLengthsRefused
unfolding raw_refusal
wrong-raw-lengths-refused registers buffer a e =
    refused-within (registers_taken registers) 1 _ 2 (omega arith) (omega arith) (λ r.
    refused-within (buffer_taken buffer) 2 _ 2 (omega arith) (omega arith) (λ b.
    absurd (clash (rw (taken-long registers r, b) refl) e)))

pub refused-raw-access-leaves-all : RefusedRawAccessLeavesAll
unfolding raw_number raw_registers by_refusal
refused-raw-access-leaves-all registers buffer a answer registers-after no' g =
    let e = ne_eqb (raw_refusal registers buffer a) 0 no' in
    record { answer-is = g.answer-is ∙ rw e; registers-are = g.registers-are ∙ rw e }
