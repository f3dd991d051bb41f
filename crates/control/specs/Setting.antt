-- The call guarded setting. Refusals 1, 5 and 7.
use Rattle.std.specs.Prelude.{ℕ, ◌≡◌, Bool, not, ◌||◌, eqb, leb}
use Rattle.registers.specs.Fields.{put, fits_at, registers_fit, CONTEXT}
use Rattle.registers.specs.Refusals.{refuse_unless, by_refusal}
use Rattle.registers.specs.Replies.{refusal_of, refused, done}
use Rattle.registers.specs.declared.Registers.{Registers}
use Rattle.registers.specs.declared.Reply.{Reply}

-- KSEG 0, CTRL 1, ENABLE 2, KBASE_LO 3, KBASE_HI 4, CONTEXT 5; "to a guarded setting every other register number is unknown"
unfoldable pub is_guarded : (number : ℕ) → Bool
is_guarded number = leb number CONTEXT

-- number 5: a guarded switch, which is a setting of CONTEXT, above 62
unfoldable pub switch_fits : (number value : ℕ) → Bool
switch_fits number value = not (eqb number CONTEXT) || leb value 62

-- number 7: unknown register number, or a value too large for it
unfoldable pub argument_refusal : (number value : ℕ) → ℕ
argument_refusal number value =
    refuse_unless (switch_fits number value) 5 (refuse_unless (is_guarded number) 7 (refuse_unless (fits_at number value) 7 0))

unfoldable pub setting_refusal : Registers → (number value : ℕ) → ℕ
setting_refusal r number value = refuse_unless (registers_fit r) 1 (argument_refusal number value)

-- the register gets the value, and no other changes
unfoldable pub setting_reply : Registers → (number value : ℕ) → Reply
setting_reply r number value =
    by_refusal (setting_refusal r number value) (done (put r number value) 0) (refused r (setting_refusal r number value))

-- what the call promises
pub record GuardedSettingGives (r : Registers) (number value : ℕ) (reply : Reply) : Type 0 where
  pub refusal_is : refusal_of reply.outcome ≡ setting_refusal r number value
  pub reply-is : reply ≡ setting_reply r number value
