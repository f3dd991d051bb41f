-- The C call raw access. Refusals 1, 2 and 4.
use Rattle.std.specs.Prelude.{ℕ, ◌≡◌, List}
use Rattle.registers.specs.Fields.{registers_fit}
use Rattle.registers.specs.Refusals.{refuse_unless, by_refusal, draw_fits}
use Rattle.registers.specs.declared.Access.{Access}
use Rattle.registers.specs.declared.Registers.{Registers}
use Rattle.access.specs.Translation.{translate}
use Rattle.access.specs.declared.Translation.{Translation}
use Rattle.mmu_c.specs.Runs.{registers_of, register_bytes, buffer_of, registers_taken, buffer_taken}
use Rattle.mmu_c.specs.Answers.{refusal_answer, translation_answer}

unfoldable pub raw_refusal : (registers buffer : List ℕ) → Access → ℕ
raw_refusal registers buffer a =
    refuse_unless (registers_taken registers) 1 (refuse_unless (buffer_taken buffer) 2 (refuse_unless (draw_fits a.draw) 4 0))

-- the same, once the registers are 44 bytes
abbrev pub long_refusal : Registers → (buffer : List ℕ) → Access → ℕ
long_refusal r buffer a = refuse_unless (registers_fit r) 1 (refuse_unless (buffer_taken buffer) 2 (refuse_unless (draw_fits a.draw) 4 0))

-- the access, once it is accepted
unfoldable pub translation : (registers buffer : List ℕ) → Access → Translation
translation registers buffer a = translate (registers_of registers) (buffer_of buffer) a

unfoldable pub raw_number : (registers buffer : List ℕ) → Access → ℕ
raw_number registers buffer a =
    by_refusal (raw_refusal registers buffer a)
    (translation_answer (translation registers buffer a))
    (refusal_answer (raw_refusal registers buffer a))

unfoldable pub raw_registers : (registers buffer : List ℕ) → Access → List ℕ
raw_registers registers buffer a =
    by_refusal (raw_refusal registers buffer a) (register_bytes (translation registers buffer a).registers) registers

-- what the call promises. The buffer is lent for reading alone
pub record RawAccessGives (registers buffer : List ℕ) (a : Access) (answer : ℕ) (registers-after : List ℕ) : Type 0 where
  pub answer-is : answer ≡ raw_number registers buffer a
  pub registers-are : registers-after ≡ raw_registers registers buffer a
