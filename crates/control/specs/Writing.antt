-- The call register write, numbers 0 to 9. Refusals 1, 2 and 7.
use Rattle.std.specs.Prelude.{ℕ, ◌≡◌, cond, eqb}
use Rattle.registers.specs.Fields.{put, fits_at, TLB_LO}
use Rattle.registers.specs.Refusals.{refuse_unless, by_refusal}
use Rattle.registers.specs.Replies.{refusal_of, refused, done}
use Rattle.registers.specs.declared.Registers.{Registers}
use Rattle.registers.specs.declared.Reply.{Reply}
use Rattle.slots.specs.Buffer.{Buffer, with_slot}
use Rattle.control.specs.Numbers.{number_refusal}
use Rattle.control.specs.Halves.{entry_from}

-- number 7: unknown register number, or a value too large for it
unfoldable pub write_refusal : Registers → Buffer → (number value : ℕ) → ℕ
write_refusal r b number value = number_refusal r b number (refuse_unless (fits_at number value) 7 0)

-- the entry that a write to TLB_LO stores: from the vpn and the page_id that TLB_HI and the cause share, and the written value
unfoldable pub written_entry : Registers → (value : ℕ) → ℕ
written_entry r value = entry_from r.tlb_hi value

-- it is stored at SELECT, which gives its location
unfoldable pub written_buffer : Registers → Buffer → (number value : ℕ) → Buffer
written_buffer r b number value = cond (eqb number TLB_LO) (with_slot b r.select (written_entry r value)) b

-- the register gets the value. TLB_HI and the cause share vpn and page_id, and have one field; the exception and write bits have
-- their own, so that a write to TLB_HI leaves them
unfoldable pub write_reply : Registers → Buffer → (number value : ℕ) → Reply
write_reply r b number value =
    by_refusal (write_refusal r b number value) (done (put r number value) 0) (refused r (write_refusal r b number value))

unfoldable pub buffer_after_write : Registers → Buffer → (number value : ℕ) → Buffer
buffer_after_write r b number value = by_refusal (write_refusal r b number value) (written_buffer r b number value) b

-- what the call promises
pub record WriteGives (r : Registers) (b after : Buffer) (number value : ℕ) (reply : Reply) : Type 0 where
  pub refusal_is : refusal_of reply.outcome ≡ write_refusal r b number value
  pub reply-is : reply ≡ write_reply r b number value
  pub buffer-is : after ≡ buffer_after_write r b number value
