-- A C host's start is the unit's.
use Rattle.std.specs.Prelude.{ℕ, ◌≡◌, List}
use Rattle.control.specs.Starting.{start_reply, started_buffer}
use Rattle.mmu_c.specs.Runs.{registers_of, buffer_of}
use Rattle.mmu_c.specs.Answers.{refusal_answer, reply_answer}
use Rattle.mmu_c.specs.Start.{start_refusal, StartGives}

-- with right lengths, whatever the bytes hold: the answer, and the registers and the buffer in the bytes at its end
pub record IsUnitStart (buffer : List ℕ) (answer : ℕ) (registers-after buffer-after : List ℕ) : Type 0 where
  pub answer-is : answer ≡ reply_answer (start_reply (buffer_of buffer))
  pub registers-are : registers_of registers-after ≡ (start_reply (buffer_of buffer)).registers
  pub buffer-is : buffer_of buffer-after ≡ started_buffer (buffer_of buffer)

abbrev pub StartsAreStarts : Type 0
StartsAreStarts = (registers buffer : List ℕ) (answer : ℕ) (registers-after buffer-after : List ℕ) → start_refusal registers buffer ≡ 0
    → StartGives registers buffer answer registers-after buffer-after → IsUnitStart buffer answer registers-after buffer-after

-- a refused one, which has a wrong length, answers its number and leaves every byte
pub record StartLeftAlone (registers buffer : List ℕ) (answer : ℕ) (registers-after buffer-after : List ℕ) : Type 0 where
  pub answer-is : answer ≡ refusal_answer (start_refusal registers buffer)
  pub registers-are : registers-after ≡ registers
  pub buffer-is : buffer-after ≡ buffer

abbrev pub RefusedStartLeavesAll : Type 0
RefusedStartLeavesAll = (registers buffer : List ℕ) (answer : ℕ) (registers-after buffer-after : List ℕ)
    → (start_refusal registers buffer ≡ 0 → ⊥) → StartGives registers buffer answer registers-after buffer-after
    → StartLeftAlone registers buffer answer registers-after buffer-after
