-- The C call start. Refusals 1 and 2, both for a length: what the bytes hold does not matter.
use Rattle.std.specs.Prelude.{ℕ, ◌≡◌, List}
use Rattle.registers.specs.Fields.{zero_registers}
use Rattle.registers.specs.Refusals.{refuse_unless, by_refusal}
use Rattle.slots.specs.Start.{start_buffer}
use Rattle.mmu_c.specs.Runs.{registers_long, register_bytes, buffer_of, buffer_bytes, buffer_taken}
use Rattle.mmu_c.specs.Answers.{refusal_answer}

unfoldable pub start_refusal : (registers buffer : List ℕ) → ℕ
start_refusal registers buffer = refuse_unless (registers_long registers) 1 (refuse_unless (buffer_taken buffer) 2 0)

-- 0, or the refusal's number in bits 56 to 63
unfoldable pub start_number : (registers buffer : List ℕ) → ℕ
start_number registers buffer = refusal_answer (start_refusal registers buffer)

-- "all registers 0". A refused start leaves the registers too: here they are lent
unfoldable pub start_registers : (registers buffer : List ℕ) → List ℕ
start_registers registers buffer = by_refusal (start_refusal registers buffer) (register_bytes zero_registers) registers

-- "every slot empty"
unfoldable pub start_bytes : (registers buffer : List ℕ) → List ℕ
start_bytes registers buffer = by_refusal (start_refusal registers buffer) (buffer_bytes (start_buffer (buffer_of buffer))) buffer

-- what the call promises
pub record StartGives (registers buffer : List ℕ) (answer : ℕ) (registers-after buffer-after : List ℕ) : Type 0 where
  pub answer-is : answer ≡ start_number registers buffer
  pub registers-are : registers-after ≡ start_registers registers buffer
  pub buffer-is : buffer-after ≡ start_bytes registers buffer
