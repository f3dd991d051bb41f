use Rattle.std.proofs.Common.{rules, ◌≡◌}
use mathlib.Core.Path.{refl, ◌∙◌}
use Rattle.registers.specs.Numbers.{refusal_number, number_of}
use Rattle.registers.proofs.RefusalLaws.{refuse-here, refuse-later, machine-refused, machine-later, refused-ne0}
use Rattle.store.specs.TableStore.{index_fits, store_refusal}
use Rattle.store.proofs.store_refusal.Goals as goal

pub returns-in_err-machine_refusal : goal.returns-in_err-machine_refusal
unfolding store_refusal
returns-in_err-machine_refusal c =
    let same : refusal_number c.from_residual.result ≡ number_of c.in_err-machine_refusal.field-0.0 = search rules in
    same ∙ machine-refused _ _ _ _ _ _ c.registers_fit.ensures c.buffer_fits.ensures c.tables_fit.ensures _ c.in_err-machine_refusal.ensures _
    (refused-ne0 _)

pub returns-then-not-index_fits : goal.returns-then-not-index_fits
unfolding store_refusal index_fits
returns-then-not-index_fits c = machine-later _ _ _ _ _ _ c.registers_fit.ensures c.buffer_fits.ensures c.tables_fit.ensures _ c.in_ok-machine_refusal.ensures _ _
    refl (refuse-here _ _ _ _ refl c.if-not-index_fits.true-raw)

pub returns : goal.returns
unfolding store_refusal index_fits
returns c = machine-later _ _ _ _ _ _ c.registers_fit.ensures c.buffer_fits.ensures c.tables_fit.ensures _ c.in_ok-machine_refusal.ensures _ _
    refl (refuse-later _ _ _ _ refl _ c.if-not-index_fits.false-raw refl)
