-- The 64-bit answer of the C calls, by its bits: 0 to 31 the address, or the slots that a store emptied; 32 to 47 the exception or fault
-- value; 48 to 51 the loads; 52 there is an address; 53 it interrupts; 54 there was an exception or a fault; 56 to 63 a refusal's
-- number, and all else then 0.
use Rattle.std.specs.Prelude.{ℕ, ◌+◌, ◌*◌, ◌^◌, Bool, true, false, ltb, Option, Some, None, Result, Ok, Err}
use Rattle.runs.specs.Bits.{bit}
use Rattle.registers.specs.Numbers.{number_of}
use Rattle.registers.specs.declared.refusals.Refusal.{Refusal}
use Rattle.registers.specs.declared.Outcome.{Outcome}
use Rattle.registers.specs.declared.Outcome.TheVariants.{At, Fault, Done, Refused}
use Rattle.registers.specs.declared.Reply.{Reply}
use Rattle.access.specs.declared.Translation.{Translation}

unfoldable pub refusal_answer : (number : ℕ) → ℕ
refusal_answer number = number * 2 ^ 56

-- the answer of a call: what it gives, or its refusal's
abbrev pub answer_of : Result ℕ Refusal → ℕ
answer_of (Ok answer) = answer
answer_of (Err refusal) = refusal_answer (number_of refusal)

-- the bits of an access's answer below the refusal's
unfoldable pub access_answer : (address value loads : ℕ) (located interrupts exception : Bool) → ℕ
access_answer address value loads located interrupts exception =
    address + value * 2 ^ 32 + loads * 2 ^ 48 + bit located * 2 ^ 52 + bit interrupts * 2 ^ 53 + bit exception * 2 ^ 54

-- a raw access's four answers
unfoldable pub raw_answer : Option ℕ → (interrupts exception : Bool) (value : ℕ) → ℕ
raw_answer (Some address) interrupts exception value = access_answer address value 0 true interrupts exception
raw_answer None interrupts exception value = access_answer 0 value 0 false interrupts exception

unfoldable pub translation_answer : Translation → ℕ
translation_answer t = raw_answer t.physical t.interrupt t.exception t.value

-- a reply's outcome and loads. Whether it interrupts is an answer of the raw access alone
unfoldable pub outcome_answer : Outcome → (loads : ℕ) → ℕ
outcome_answer (At address) loads = access_answer address 0 loads true false false
outcome_answer (Fault value) loads = access_answer 0 value loads false false true
outcome_answer (Done emptied) loads = emptied
outcome_answer (Refused number) loads = refusal_answer number

unfoldable pub reply_answer : Reply → ℕ
reply_answer reply = outcome_answer reply.outcome reply.loads

-- an outcome's own number has room in its bits: an address and a number of slots always do
unfoldable pub outcome_fits : Outcome → Bool
outcome_fits (At address) = true
outcome_fits (Fault value) = ltb value (2 ^ 16)
outcome_fits (Done emptied) = true
outcome_fits (Refused number) = ltb number (2 ^ 8)
