use Rattle.control.proofs.CallLaws.{start-refused, start-done}
use mathlib.Core.Path.{sym, ap, ◌∙◌}
use Rattle.registers.specs.Replies.{refused}
use borrow.Author.Tests.{not-false}
use Rattle.control.proofs.start.Goals as goal

pub returns-then-not-buffer_fits : goal.returns-then-not-buffer_fits
returns-then-not-buffer_fits c = start-refused _ _ _ _ c.buffer_fits.ensures c.zero_registers-r.ensures
    c.if-not-buffer_fits.true-raw (c.refused.ensures ∙ ap (refused _) c.from.ensures)

pub empty_slots-requires : goal.empty_slots-requires
empty_slots-requires c = sym c.buffer_fits.ensures ∙ not-false _ c.if-not-buffer_fits.false-raw

pub returns : goal.returns
returns c = start-done _ _ _ _ c.buffer_fits.ensures
    c.zero_registers-r.ensures _
    c.if-not-buffer_fits.false-raw c.done.ensures c.empty_slots.ensures
