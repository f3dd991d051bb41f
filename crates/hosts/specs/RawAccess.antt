-- A C host's raw access is the unit's. It is in no sequence of demand 3.
use Rattle.std.specs.Prelude.{ℕ, ◌≤◌, ◌≡◌, true, false, ◌&&◌, List, Ok, Err}
use Rattle.registers.specs.declared.Access.{Access}
use Rattle.registers.specs.declared.Registers.{Registers}
use Rattle.mmu.specs.RawAccess.{RawReply, raw_reply}
use Rattle.mmu_c.specs.Runs.{registers_of, buffer_of, registers_long, buffer_taken}
use Rattle.mmu_c.specs.Answers.{refusal_answer, translation_answer}
use Rattle.mmu_c.specs.RawAccess.{raw_refusal, RawAccessGives}

-- a reply's answer, and its registers
unfoldable pub raw_reply_answer : RawReply → ℕ
raw_reply_answer (Ok t) = translation_answer t
raw_reply_answer (Err refused) = refusal_answer refused.number

unfoldable pub registers_replied : RawReply → Registers
registers_replied (Ok t) = t.registers
registers_replied (Err refused) = refused.registers

-- with right lengths, accepted or refused: the answer, and the registers in the bytes at its end
pub record IsUnitRawAccess (registers buffer : List ℕ) (a : Access) (answer : ℕ) (registers-after : List ℕ) : Type 0 where
  pub answer-is : answer ≡ raw_reply_answer (raw_reply (registers_of registers) (buffer_of buffer) a)
  pub registers-are : registers_of registers-after ≡ registers_replied (raw_reply (registers_of registers) (buffer_of buffer) a)

abbrev pub RawAccessesAreRawAccesses : Type 0
RawAccessesAreRawAccesses = (registers buffer : List ℕ) (a : Access) (answer : ℕ) (registers-after : List ℕ)
    → registers_long registers && buffer_taken buffer ≡ true → RawAccessGives registers buffer a answer registers-after
    → IsUnitRawAccess registers buffer a answer registers-after

-- a wrong length is refused, with 1 or 2
abbrev pub WrongRawLengthsRefused : Type 0
WrongRawLengthsRefused = (registers buffer : List ℕ) (a : Access) → registers_long registers && buffer_taken buffer ≡ false
    → (1 ≤ raw_refusal registers buffer a) × (raw_refusal registers buffer a ≤ 2)

-- a refused one, for a length or not, answers its number and leaves every byte
pub record RawLeftAlone (registers buffer : List ℕ) (a : Access) (answer : ℕ) (registers-after : List ℕ) : Type 0 where
  pub answer-is : answer ≡ refusal_answer (raw_refusal registers buffer a)
  pub registers-are : registers-after ≡ registers

abbrev pub RefusedRawAccessLeavesAll : Type 0
RefusedRawAccessLeavesAll = (registers buffer : List ℕ) (a : Access) (answer : ℕ) (registers-after : List ℕ)
    → (raw_refusal registers buffer a ≡ 0 → ⊥) → RawAccessGives registers buffer a answer registers-after
    → RawLeftAlone registers buffer a answer registers-after
