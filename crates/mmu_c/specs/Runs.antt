-- What a C host hands over: registers, buffer and tables as bytes, most significant first.
use Rattle.std.specs.Prelude.{ℕ, ◌%◌, Bool, ◌&&◌, List, length, eqb, leb}
use Rattle.wire.specs.Wire.{encoded, decoded}
use Rattle.registers.specs.Fields.{to_words, from_words, registers_fit, FIELDS}
use Rattle.registers.specs.declared.Registers.{Registers}
use Rattle.slots.specs.Buffer.{Buffer}
use Rattle.slots.specs.Buffer.Buffer.{Wide}
use Rattle.store.specs.Machine.{Machine}
use Rattle.table_bytes.specs.TableBytes.{words_of}

-- how many bytes registers and buffer have
abbrev pub REGISTER_BYTES : ℕ
REGISTER_BYTES = 44

abbrev pub BUFFER_BYTES : ℕ
BUFFER_BYTES = 512

-- "the registers as 44: four for each number 0 to 9, then four for exception value × 2 + write bit"
unfoldable pub registers_of : (bytes : List ℕ) → Registers
registers_of bytes = from_words (decoded 4 bytes FIELDS)

unfoldable pub register_bytes : Registers → List ℕ
register_bytes r = encoded 4 (to_words r)

-- "the buffer over as 512 bytes": eight for each of the 64 numbers
unfoldable pub buffer_of : (bytes : List ℕ) → Buffer
buffer_of bytes = Wide (decoded 8 bytes 64)

unfoldable pub buffer_bytes : Buffer → List ℕ
buffer_bytes (Wide numbers) = encoded 8 numbers

-- "a wrong byte length is number 1 for the registers"
unfoldable pub registers_long : (bytes : List ℕ) → Bool
registers_long bytes = eqb (length bytes) REGISTER_BYTES

-- and so is a field that exceeds its bits
unfoldable pub registers_taken : (bytes : List ℕ) → Bool
registers_taken bytes = registers_long bytes && registers_fit (registers_of bytes)

-- "2 for the buffer"
unfoldable pub buffer_taken : (bytes : List ℕ) → Bool
buffer_taken bytes = eqb (length bytes) BUFFER_BYTES

-- "and 3 for the tables": 4,096 to 65,536 bytes, in multiples of 4,096, which are 1,024 words
unfoldable pub length_taken : (length : ℕ) → Bool
length_taken length = leb 4096 length && leb length 65536 && eqb (length % 4096) 0

unfoldable pub tables_taken : (bytes : List ℕ) → Bool
tables_taken bytes = length_taken (length bytes)

-- the machine whose registers and runs these bytes are
unfoldable pub machine_of : (registers buffer tables : List ℕ) → Machine
machine_of registers buffer tables =
    record { registers = registers_of registers; buffer = buffer_of buffer; words = words_of tables }
