-- A trace's line: "record number from 0, word, eight hex digits, loads".
use Rattle.std.specs.Prelude.{ℕ, List, ◌++◌}
use Rattle.registers.specs.declared.Outcome.{Outcome}
use Rattle.registers.specs.declared.Outcome.TheVariants.{At, Fault, Done, Refused}
use Rattle.registers.specs.declared.Reply.{Reply}
use Rattle.line.specs.Text.{ascii, decimal, hex}

-- "The word is at (address), fault (value), done (slots emptied by a store, else 0) or refused (number)"; a space stands on either side
unfoldable pub word_of : Outcome → List ℕ
word_of (At address) = ascii " at "
word_of (Fault value) = ascii " fault "
word_of (Done value) = ascii " done "
word_of (Refused number) = ascii " refused "

unfoldable pub value_of : Outcome → ℕ
value_of (At address) = address
value_of (Fault value) = value
value_of (Done value) = value
value_of (Refused number) = number

-- the first three
unfoldable pub head_of : (number : ℕ) → Outcome → List ℕ
head_of number outcome = decimal number ++ word_of outcome ++ hex (value_of outcome)

unfoldable pub line_of : (number : ℕ) → Reply → List ℕ
line_of number reply = head_of number reply.outcome ++ ascii " " ++ decimal reply.loads ++ ascii "\n"
