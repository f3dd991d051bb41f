use Rattle.std.proofs.Common.{◌+◌, ◌-◌}
use Rattle.slots.specs.Buffer.Buffer.{Wide}
use Rattle.tracing.specs.Blocks.{LinesFit}
use Rattle.tracing.specs.Traces.{Reached}
use Rattle.tracing.specs.Streams.{TraceMoves}
use Rattle.tracing.proofs.traces.run_blocks.Given as goal

abbrev pub invariant-loop-registers : goal.invariant-loop-registers
invariant-loop-registers g l =
    Reached (record { registers = l.fn.r; buffer = Wide l.fn.buffer; words = l.fn.words }) l.last (Wide l.buffer) l.words l.input l.out
    × LinesFit l.input l.out
    × TraceMoves (record { registers = l.fn.r; buffer = Wide l.fn.buffer; words = l.fn.words }) l.last (Wide l.buffer) l.words l.input
    (g.R.Read.remaining l.fn.reader) (g.R.Read.remaining l.reader) (g.W.Write.contents l.fn.writer) (g.W.Write.contents l.writer)

abbrev pub decreases-loop-registers : goal.decreases-loop-registers
decreases-loop-registers g l = 18446744073709551616 - l.last.number + l.last.read
