-- The call register read, numbers 0 to 9. Refusals 1, 2 and 7.
use Rattle.std.specs.Prelude.{ℕ, ◌≡◌, cond, eqb}
use Rattle.registers.specs.Fields.{field, TLB_HI, TLB_LO}
use Rattle.registers.specs.Refusals.{by_refusal}
use Rattle.registers.specs.Replies.{refusal_of, refused, done}
use Rattle.registers.specs.declared.Registers.{Registers}
use Rattle.registers.specs.declared.Reply.{Reply}
use Rattle.slots.specs.Buffer.{Buffer, slot_at}
use Rattle.control.specs.Numbers.{number_refusal}
use Rattle.control.specs.Halves.{hi_of, lo_of}

unfoldable pub read_refusal : Registers → Buffer → (number : ℕ) → ℕ
read_refusal r b number = number_refusal r b number 0

-- TLB_HI and TLB_LO read as the entry at SELECT, every other number as its own field
unfoldable pub read_value : Registers → Buffer → (number : ℕ) → ℕ
read_value r b number =
    cond (eqb number TLB_HI) (hi_of r.select (slot_at b r.select))
    (cond (eqb number TLB_LO) (lo_of (slot_at b r.select)) (field r number))

-- registers stay: the vpn and the page_id that TLB_HI and the cause share keep their value, and so does the value last written to TLB_LO
unfoldable pub read_reply : Registers → Buffer → (number : ℕ) → Reply
read_reply r b number =
    by_refusal (read_refusal r b number) (done r (read_value r b number)) (refused r (read_refusal r b number))

-- what the call promises
pub record ReadGives (r : Registers) (b : Buffer) (number : ℕ) (reply : Reply) : Type 0 where
  pub refusal_is : refusal_of reply.outcome ≡ read_refusal r b number
  pub reply-is : reply ≡ read_reply r b number
