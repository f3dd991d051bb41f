use mathlib.Core.Bool.{not}
use Rattle.std.proofs.Common.{rules, ◌≡◌}
use mathlib.Core.Path.{refl, ap, ◌∙◌}
use Rattle.registers.specs.Numbers.{refusal_number, number_of}
use borrow.Author.Tests.{lt-ltb, le-ltb}
use Rattle.registers.proofs.RefusalLaws.{refuse-here, refuse-later, machine-refused, machine-later, refused-ne0}
use Rattle.mmu_c.specs.TableStore.{store_refusal}
use Rattle.mmu_c.proofs.RunLaws.{index-test}
use Rattle.mmu_c.proofs.table_store.store_refusal.Goals as goal

pub returns-in_err-machine_refusal : goal.returns-in_err-machine_refusal
unfolding store_refusal
returns-in_err-machine_refusal c =
    let same : refusal_number c.from_residual.result ≡ number_of c.in_err-machine_refusal.field-0.0 = search rules in
    same ∙ machine-refused _ _ _ _ _ _ c.registers_taken.ensures c.buffer_taken.ensures c.tables_taken.ensures _ c.in_err-machine_refusal.ensures _
    (refused-ne0 _)

pub returns-then-not-index_fits : goal.returns-then-not-index_fits
unfolding store_refusal
returns-then-not-index_fits c = machine-later _ _ _ _ _ _ c.registers_taken.ensures c.buffer_taken.ensures c.tables_taken.ensures _ c.in_ok-machine_refusal.ensures _ _
    refl (refuse-here _ _ _ _ (index-test _ _) (ap not (le-ltb _ _ c.if-not-index_fits.true)))

pub returns : goal.returns
unfolding store_refusal
returns c = machine-later _ _ _ _ _ _ c.registers_taken.ensures c.buffer_taken.ensures c.tables_taken.ensures _ c.in_ok-machine_refusal.ensures _ _
    refl (refuse-later _ _ _ _ (index-test _ _) _ (ap not (lt-ltb _ _ c.if-not-index_fits.false)) refl)
