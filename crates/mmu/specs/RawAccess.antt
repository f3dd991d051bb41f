-- The call raw access: refusals 1, 2 and 4 round the access itself.
use Rattle.std.specs.Prelude.{ℕ, ◌≡◌, Result, Ok, Err}
use Rattle.registers.specs.Fields.{registers_fit}
use Rattle.registers.specs.Refusals.{refuse_unless, by_refusal, draw_fits}
use Rattle.registers.specs.declared.Access.{Access}
use Rattle.registers.specs.declared.Registers.{Registers}
use Rattle.slots.specs.Buffer.{Buffer, buffer_fits}
use Rattle.access.specs.Translation.{translate}
use Rattle.access.specs.declared.Translation.{Translation}
use Rattle.mmu.specs.declared.Refused.{Refused}

-- what a raw access replies: its four answers and the registers; or the refusal's number and the registers received
abbrev pub RawReply : Type 0
RawReply = Result Translation Refused

abbrev pub raw_refused : (number : ℕ) → Registers → RawReply
raw_refused number r = Err (record { number = number; registers = r })

unfoldable pub raw_refusal : Registers → Buffer → Access → ℕ
raw_refusal r b a = refuse_unless (registers_fit r) 1 (refuse_unless (buffer_fits b) 2 (refuse_unless (draw_fits a.draw) 4 0))

unfoldable pub raw_reply : Registers → Buffer → Access → RawReply
raw_reply r b a = by_refusal (raw_refusal r b a) (Ok (translate r b a)) (raw_refused (raw_refusal r b a) r)

-- the number that a reply refuses with; 0 where it is no refusal
unfoldable pub raw_refusal_of : RawReply → ℕ
raw_refusal_of (Ok t) = 0
raw_refusal_of (Err refused) = refused.number

-- what the call promises. The buffer is lent for reading alone
pub record RawAccessGives (r : Registers) (b : Buffer) (a : Access) (reply : RawReply) : Type 0 where
  pub refusal_is : raw_refusal_of reply ≡ raw_refusal r b a
  pub reply-is : reply ≡ raw_reply r b a
