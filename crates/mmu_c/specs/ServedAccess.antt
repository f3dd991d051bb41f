-- The C call served access. Refusals 1, 2, 3, 4 and 5.
use Rattle.std.specs.Prelude.{ℕ, ◌≡◌, List}
use Rattle.registers.specs.Refusals.{machine_refusal, by_refusal}
use Rattle.registers.specs.declared.Access.{Access}
use Rattle.registers.specs.declared.Reply.{Reply}
use Rattle.slots.specs.Buffer.{Buffer}
use Rattle.store.specs.Machine.{Machine}
use Rattle.mmu.specs.ServedAccess.{service_refusal, access_reply, access_buffer}
use Rattle.mmu_c.specs.Runs.{registers_of, register_bytes, buffer_bytes, registers_taken, buffer_taken, tables_taken, machine_of}
use Rattle.mmu_c.specs.Answers.{refusal_answer, reply_answer}

unfoldable pub served_refusal : (registers buffer tables : List ℕ) → Access → ℕ
served_refusal registers buffer tables a =
    machine_refusal (registers_taken registers) (buffer_taken buffer) (tables_taken tables)
    (service_refusal (registers_of registers) a.draw)

-- what an accepted access gives: the buffer's bytes are those of the buffer that it leaves
pub record AccessGivesBytes (m : Machine) (a : Access) (reply : Reply) (buffer-after : List ℕ) : Type 0 where
  pub reply-is : reply ≡ access_reply m a
  pub buffer-is : buffer-after ≡ buffer_bytes (access_buffer m a)

-- the access, once it is accepted
unfoldable pub served_reply : (registers buffer tables : List ℕ) → Access → Reply
served_reply registers buffer tables a = access_reply (machine_of registers buffer tables) a

unfoldable pub served_buffer : (registers buffer tables : List ℕ) → Access → Buffer
served_buffer registers buffer tables a = access_buffer (machine_of registers buffer tables) a

unfoldable pub served_number : (registers buffer tables : List ℕ) → Access → ℕ
served_number registers buffer tables a =
    by_refusal (served_refusal registers buffer tables a)
    (reply_answer (served_reply registers buffer tables a))
    (refusal_answer (served_refusal registers buffer tables a))

unfoldable pub served_registers : (registers buffer tables : List ℕ) → Access → List ℕ
served_registers registers buffer tables a =
    by_refusal (served_refusal registers buffer tables a) (register_bytes (served_reply registers buffer tables a).registers) registers

unfoldable pub served_bytes : (registers buffer tables : List ℕ) → Access → List ℕ
served_bytes registers buffer tables a =
    by_refusal (served_refusal registers buffer tables a) (buffer_bytes (served_buffer registers buffer tables a)) buffer

-- what the call promises. The tables are lent for reading alone
pub record ServedAccessGives (registers buffer tables : List ℕ) (a : Access) (answer : ℕ) (registers-after buffer-after : List ℕ)
    : Type 0 where
  pub answer-is : answer ≡ served_number registers buffer tables a
  pub registers-are : registers-after ≡ served_registers registers buffer tables a
  pub buffer-is : buffer-after ≡ served_bytes registers buffer tables a
