-- The call start: every slot empty, all registers 0. Refusal 2.
use Rattle.std.specs.Prelude.{ℕ, ◌≡◌}
use Rattle.registers.specs.Fields.{zero_registers}
use Rattle.registers.specs.Refusals.{refuse_unless, by_refusal}
use Rattle.registers.specs.Replies.{refusal_of, refused, done}
use Rattle.registers.specs.declared.Reply.{Reply}
use Rattle.slots.specs.Buffer.{Buffer, buffer_fits}
use Rattle.slots.specs.Start.{start_buffer}

unfoldable pub start_refusal : Buffer → ℕ
start_refusal b = refuse_unless (buffer_fits b) 2 0

-- a refused start returns registers that are all 0 too
unfoldable pub start_reply : Buffer → Reply
start_reply b = by_refusal (start_refusal b) (done zero_registers 0) (refused zero_registers (start_refusal b))

unfoldable pub started_buffer : Buffer → Buffer
started_buffer b = by_refusal (start_refusal b) (start_buffer b) b

-- what the call promises
pub record StartGives (b after : Buffer) (reply : Reply) : Type 0 where
  pub refusal_is : refusal_of reply.outcome ≡ start_refusal b
  pub reply-is : reply ≡ start_reply b
  pub buffer-is : after ≡ started_buffer b
