-- The numbers of refusals: document 01's table, and what later requests add to it.
use Rattle.std.specs.Prelude.{ℕ, ⊤, Result, Ok, Err}
use Rattle.registers.specs.declared.refusals.Refusal.{Refusal}
use Rattle.registers.specs.declared.refusals.Refusal.TheVariants.{Registers, Pool, Buffer, Tables, Draw, Service, Index, Setting, Record, Full, NotHeld, Tree}

abbrev pub number_of : Refusal → ℕ
number_of Registers = 1
number_of Pool = 1
number_of Buffer = 2
number_of Tables = 3
number_of Draw = 4
number_of Service = 5
number_of Index = 6
number_of Setting = 7
number_of Record = 8
number_of Full = 10
number_of NotHeld = 11
number_of Tree = 12

-- the number that checks refuse with; 0 where all are passed
abbrev pub refusal_number : Result ⊤ Refusal → ℕ
refusal_number (Ok passed) = 0
refusal_number (Err refusal) = number_of refusal
