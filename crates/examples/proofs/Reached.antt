-- Demand 3 speaks of the sequence that reaches every outcome: its stray calls are refused. Assumes nothing.
use mathlib.Core.Path.{◌≡◌, refl}
use mathlib.Core.Bool.{true}
use mathlib.Core.List.{◌++◌}
use lib.ListN.{replicate}
use Rattle.runs.specs.Counts.{all}
use Rattle.registers.specs.Fields.{to_words, from_words, field, put, widths, fits_at, registers_fit, zero_registers}
use Rattle.registers.specs.Refusals.{refuse_unless, draw_fits}
use Rattle.page_table.specs.Stretches.{length_fits, tables_fit}
use Rattle.slots.specs.Buffer.{buffer_fits, with_slot}
use Rattle.slots.specs.Start.{empty_first, start_buffer}
use Rattle.access.specs.Translation.{is_set}
use Rattle.store.specs.TableStore.{index_fits, store_refusal}
use Rattle.control.specs.Setting.{argument_refusal, setting_refusal}
use Rattle.mmu.specs.ServedAccess.{may_be_served, served_refusal}
use Rattle.sequence.specs.Calls.{refusal, accepted}
use Rattle.sequence.specs.Demand3.{HoldsThroughout}
use Rattle.sequence.specs.Systems.Moment.{Start}
use Rattle.sequence.specs.Asks.{events_of, StraysRefused}
use Rattle.sequence.proofs.Asking.{of-every-list}
use Rattle.examples.specs.Scene.{registers_with, enabled, started, user}
use Rattle.examples.specs.Walks.{tables, good}
use Rattle.examples.specs.Served.{machine, reading}
use Rattle.examples.specs.Sequences.{lent, fresh, outcomes, strays}

lent_fits : buffer_fits lent ≡ true
unfolding buffer_fits lent
lent_fits = refl

words-fit : tables_fit (replicate 2048 0) ≡ true
unfolding tables_fit length_fits
words-fit = refl

strays-refused : StraysRefused (outcomes ++ strays)
unfolding StraysRefused outcomes strays accepted refusal served_refusal store_refusal setting_refusal argument_refusal refuse_unless
    registers_fit all fits_at field to_words from_words widths put zero_registers registers_with enabled started buffer_fits with_slot empty_first
    start_buffer tables_fit length_fits tables good machine reading user draw_fits may_be_served is_set index_fits
strays-refused = (refl, (refl, (refl, (refl, (refl, (refl, (refl, (refl, (refl, tt)))))))))

pub reached : HoldsThroughout (fresh 2048) Start (events_of (fresh 2048) (outcomes ++ strays))
unfolding fresh
reached = of-every-list lent (replicate 2048 0) lent_fits words-fit (outcomes ++ strays) strays-refused
