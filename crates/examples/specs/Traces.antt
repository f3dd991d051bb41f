-- Traces as bytes: document 01's worked example, its ten records and its ten lines; and records and lines one by one.
use Rattle.std.specs.Prelude.{ℕ, true, false, List, [], ◌∷◌, ◌++◌}
use Rattle.wire.specs.Wire.{encoded}
use Rattle.registers.specs.Fields.{zero_registers, KSEG, CTRL, ENABLE, KBASE_LO, KBASE_HI, CONTEXT}
use Rattle.registers.specs.Replies.{refused, answered}
use Rattle.registers.specs.declared.Outcome.TheVariants.{At, Fault}
use Rattle.trace.specs.Commands.{command_of, commands_of}
use Rattle.line.specs.Text.{ascii}
use Rattle.line.specs.Lines.{line_of}
use Rattle.trace.specs.Traces.{trace_text}
use Rattle.trace.specs.declared.Command.TheVariants.{Serve, Store, Set, Malformed}
use Rattle.examples.specs.Claims.{Example, ◌gives◌}
use Rattle.examples.specs.Scene.{user, supervisor}
use Rattle.examples.specs.Sequences.{lent}

unfoldable pub worked_input : List ℕ
worked_input =
    encoded 8
    (0x1000000580000001
    ∷ 0x1000020080000001
    ∷ 0x10000401D0000123
    ∷ 0x2000000000000005
    ∷ 0x7000000000000001
    ∷ 0x0A00000000002ABC
    ∷ 0x0C00000000002ABC
    ∷ 0x0900000000004000
    ∷ 0x1000040100000000
    ∷ 0xF000000000000000
    ∷ [])

unfoldable pub worked_text : List ℕ
worked_text =
    ascii "0 done 00000000 0\n"
    ++ ascii "1 done 00000000 0\n"
    ++ ascii "2 done 00000000 0\n"
    ++ ascii "3 done 00000000 0\n"
    ++ ascii "4 done 00000000 0\n"
    ++ ascii "5 at 00246ABC 1\n"
    ++ ascii "6 at 00246ABC 0\n"
    ++ ascii "7 fault 00000310 0\n"
    ++ ascii "8 done 00000001 0\n"
    ++ ascii "9 refused 00000008 0\n"

unfoldable pub traces : List Example
traces =
    (trace_text lent worked_input gives worked_text)
    -- empty input prints nothing; a last piece of 1 to 7 bytes is one refused record
    ∷ (trace_text lent [] gives [])
    ∷ (trace_text lent (0 ∷ []) gives ascii "0 refused 00000008 0\n")
    -- table memory has 16,384 words: the last one is stored, and there is none behind it
    ∷ (trace_text lent (encoded 8 (0x10003FFF00000000 ∷ 0x1000400000000000 ∷ [])) gives ascii "0 done 00000000 0\n1 refused 00000006 0\n")
    ∷ (commands_of (encoded 8 (0x7000000000000001 ∷ []) ++ encoded 7 (0x70000000000000 ∷ [])) gives Set ENABLE 1 ∷ Malformed ∷ [])
    -- each kind, its other fields at their ends
    ∷ (command_of 0x0F000000FFFFFFFF gives Serve (user true 0xFFFFFFFF 3))
    ∷ (command_of 0x0000000000000000 gives Serve (supervisor false 0 0))
    ∷ (command_of 0x10FFFFFFFFFFFFFF gives Store 0xFFFFFF 0xFFFFFFFF)
    ∷ (command_of 0x20000000FFFFFFFF gives Set CONTEXT 0xFFFFFFFF)
    ∷ (command_of 0x3000000000000007 gives Set CTRL 7)
    ∷ (command_of 0x4000000000001800 gives Set KSEG 0x1800)
    ∷ (command_of 0x500000000007B000 gives Set KBASE_LO 0x7B000)
    ∷ (command_of 0x600000000007B000 gives Set KBASE_HI 0x7B000)
    ∷ (command_of 0x7000000000000001 gives Set ENABLE 1)
    -- malformed: a kind above 7; an index where none is; user, write or draw where none is
    ∷ (command_of 0x8000000000000000 gives Malformed)
    ∷ (command_of 0x0000000100000000 gives Malformed)
    ∷ (command_of 0x2000000100000005 gives Malformed)
    ∷ (command_of 0x7080000000000001 gives Malformed)
    ∷ (command_of 0x1800000580000001 gives Malformed)
    ∷ (command_of 0x1400000580000001 gives Malformed)
    ∷ (command_of 0x1100000580000001 gives Malformed)
    ∷ (command_of 0x3200000000000007 gives Malformed)
    -- lines: decimal numbers of one and of twenty digits, capital hex digits, loads in decimal
    ∷ (line_of 18446744073709551615 (answered zero_registers (At 0xDEADBEEF) 10) gives ascii "18446744073709551615 at DEADBEEF 10\n")
    ∷ (line_of 1000000 (answered zero_registers (Fault 0x1220) 0) gives ascii "1000000 fault 00001220 0\n")
    ∷ (line_of 9 (refused zero_registers 5) gives ascii "9 refused 00000005 0\n")
    ∷ []
