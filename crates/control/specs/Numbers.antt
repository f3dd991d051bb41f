-- A register call names a register by its number.
use Rattle.std.specs.Prelude.{ℕ, Bool, ltb}
use Rattle.registers.specs.Fields.{registers_fit}
use Rattle.registers.specs.Refusals.{refuse_unless}
use Rattle.registers.specs.declared.Registers.{Registers}
use Rattle.slots.specs.Buffer.{Buffer, buffer_fits}

-- a number that a register has: 0 to 9
unfoldable pub is_register : (number : ℕ) → Bool
is_register number = ltb number 10

-- numbers 1, 2 and 7, which a read and a write have in common, then what the later checks give
unfoldable pub number_refusal : Registers → Buffer → (number later : ℕ) → ℕ
number_refusal r b number later =
    refuse_unless (registers_fit r) 1
    (refuse_unless (buffer_fits b) 2
    (refuse_unless (is_register number) 7 later))
