use mathlib.Core.Path.{◌≡◌}
use lib.ListN.{length}
use Rattle.slots.specs.Buffer.Buffer.{Wide}
use Rattle.trace.proofs.TraceLaws.{Running}
use Rattle.trace.proofs.traces.run.Given as goal

abbrev pub invariant-loop-i : goal.invariant-loop-i
invariant-loop-i l = Running (record { registers = l.initial.registers; buffer = Wide l.initial.buffer; words = l.initial.words }) l.number l.input
    l.initial.text.bytes.now l.count
    (record { registers = l.registers; buffer = Wide l.buffer; words = l.words }) l.text.bytes.now l.text.length l.i
    × (length l.buffer ≡ length l.initial.buffer) × (length l.words ≡ length l.initial.words)
    × (l.text.bytes.ghost_name ≡ l.initial.text.bytes.ghost_name)
