-- A trace's records: eight bytes, which ask for a call or are malformed.
use Rattle.std.specs.Prelude.{ℕ, zero, suc, ◌+◌, ◌*◌, ◌/◌, Bool, cond, not, ◌&&◌, ◌||◌, List, [], ◌∷◌, length, get_or, eqb, leb}
use Rattle.runs.specs.Bits.{bits, flag}
use Rattle.wire.specs.Wire.{element_at}
use Rattle.registers.specs.Fields.{KSEG, CTRL, ENABLE, KBASE_LO, KBASE_HI, CONTEXT}
use Rattle.registers.specs.declared.Access.{Access}
use Rattle.trace.specs.declared.Command.{Command}
use Rattle.trace.specs.declared.Command.TheVariants.{Serve, Store, Set, Malformed}

-- "most significant first: kind 4, user 1, write 1, draw 2, index 24, value 32"
unfoldable pub kind_of : (n : ℕ) → ℕ
kind_of n = bits 63 60 n

unfoldable pub user_of : (n : ℕ) → Bool
user_of n = flag 59 n

unfoldable pub write_of : (n : ℕ) → Bool
write_of n = flag 58 n

unfoldable pub draw_of : (n : ℕ) → ℕ
draw_of n = bits 57 56 n

unfoldable pub index_of : (n : ℕ) → ℕ
index_of n = bits 55 32 n

unfoldable pub value_of : (n : ℕ) → ℕ
value_of n = bits 31 0 n

-- "user, write and draw 0"
unfoldable pub is_plain : (n : ℕ) → Bool
is_plain n = not (user_of n) && not (write_of n) && eqb (draw_of n) 0

-- "Kinds 1 to 7 need user, write and draw 0; kinds 0 and 2 to 7 need index 0. Otherwise, or kind above 7, refusal 8"
unfoldable pub well_formed : (n : ℕ) → Bool
well_formed n = leb (kind_of n) 7 && (eqb (kind_of n) 0 || is_plain n) && (eqb (kind_of n) 1 || eqb (index_of n) 0)

-- "2 CONTEXT; 3 CTRL; 4 KSEG; 5 KBASE_LO; 6 KBASE_HI; 7 ENABLE": the register's number, by kind. Kinds 0 and 1 set none.
unfoldable pub setting_numbers : List ℕ
setting_numbers = 0 ∷ 0 ∷ CONTEXT ∷ CTRL ∷ KSEG ∷ KBASE_LO ∷ KBASE_HI ∷ ENABLE ∷ []

unfoldable pub setting_of : (kind : ℕ) → ℕ
setting_of kind = get_or setting_numbers kind 0

-- a served access's address is the record's value
unfoldable pub access_of : (n : ℕ) → Access
access_of n = record { address = value_of n; user = user_of n; write = write_of n; draw = draw_of n }

-- "Kind 0 served access; 1 store"; the others are settings
unfoldable pub asked_by : (n : ℕ) → Command
asked_by n =
    cond (eqb (kind_of n) 0) (Serve (access_of n))
    (cond (eqb (kind_of n) 1) (Store (index_of n) (value_of n)) (Set (setting_of (kind_of n)) (value_of n)))

unfoldable pub command_of : (n : ℕ) → Command
command_of n = cond (well_formed n) (asked_by n) Malformed

-- the record of index i in an input; a last piece of 1 to 7 bytes is cut short
unfoldable pub command_at : (input : List ℕ) (i : ℕ) → Command
command_at input i = cond (leb (8 * i + 8) (length input)) (command_of (element_at 8 input i)) Malformed

-- so many records, from an index on
unfoldable pub commands_from : (input : List ℕ) (i count : ℕ) → List Command
commands_from input i zero = []
commands_from input i (suc count) = command_at input i ∷ commands_from input (suc i) count

-- how many records so many bytes are: one for each eight, and one for a last piece of 1 to 7
unfoldable pub record_count : (bytes : ℕ) → ℕ
record_count bytes = (bytes + 7) / 8

unfoldable pub commands_of : (input : List ℕ) → List Command
commands_of input = commands_from input 0 (record_count (length input))
