-- What a call replies: its outcome, the entries that it loaded, and the registers.
use Rattle.std.specs.Prelude.{ℕ}
use Rattle.registers.specs.declared.Registers.{Registers}
use Rattle.registers.specs.declared.Outcome.{Outcome}
use Rattle.registers.specs.declared.Outcome.TheVariants.{At, Fault, Done, Refused}
use Rattle.registers.specs.declared.Reply.{Reply}

-- the number that an outcome refuses with; 0 where it is no refusal
unfoldable pub refusal_of : Outcome → ℕ
refusal_of (At address) = 0
refusal_of (Fault value) = 0
refusal_of (Done value) = 0
refusal_of (Refused number) = number

-- a refusal returns its number, count 0 and the registers received
abbrev pub refused : Registers → (number : ℕ) → Reply
refused r number = record { outcome = Refused number; loads = 0; registers = r }

-- a call that succeeded, with its value: for a read the value read, for a store the slots emptied, else 0
abbrev pub done : Registers → (value : ℕ) → Reply
done r value = record { outcome = Done value; loads = 0; registers = r }

-- an access that was tried, with its outcome and the entries that it loaded
abbrev pub answered : Registers → (outcome : Outcome) (loads : ℕ) → Reply
answered r outcome loads = record { outcome = outcome; loads = loads; registers = r }
