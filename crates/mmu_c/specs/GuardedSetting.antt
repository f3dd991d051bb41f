-- The C call guarded setting. Refusals 1, 5 and 7.
use Rattle.std.specs.Prelude.{ℕ, ◌≡◌, List}
use Rattle.wire.specs.Wire.{with_element}
use Rattle.registers.specs.Refusals.{refuse_unless, by_refusal}
use Rattle.control.specs.Setting.{argument_refusal}
use Rattle.mmu_c.specs.Runs.{registers_taken}
use Rattle.mmu_c.specs.Answers.{refusal_answer}

unfoldable pub setting_refusal : (registers : List ℕ) (number value : ℕ) → ℕ
setting_refusal registers number value = refuse_unless (registers_taken registers) 1 (argument_refusal number value)

-- 0, or the refusal's number in bits 56 to 63
unfoldable pub setting_number : (registers : List ℕ) (number value : ℕ) → ℕ
setting_number registers number value = refusal_answer (setting_refusal registers number value)

-- the register's four bytes get the value, and no other byte changes
unfoldable pub setting_registers : (registers : List ℕ) (number value : ℕ) → List ℕ
setting_registers registers number value =
    by_refusal (setting_refusal registers number value) (with_element 4 registers number value) registers

-- what the call promises
pub record GuardedSettingGives (registers : List ℕ) (number value answer : ℕ) (registers-after : List ℕ) : Type 0 where
  pub answer-is : answer ≡ setting_number registers number value
  pub registers-are : registers-after ≡ setting_registers registers number value
