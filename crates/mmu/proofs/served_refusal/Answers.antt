use Rattle.std.proofs.Common.{rules, ◌≡◌}
use mathlib.Core.Path.{refl, ◌∙◌}
use Rattle.registers.specs.Numbers.{refusal_number, number_of}
use Rattle.registers.proofs.RefusalLaws.{machine-refused, machine-later, refused-ne0}
use Rattle.mmu.specs.ServedAccess.{served_refusal}
use Rattle.mmu.proofs.served_refusal.Goals as goal

pub returns-in_err-machine_refusal : goal.returns-in_err-machine_refusal
unfolding served_refusal
returns-in_err-machine_refusal c =
    let same : refusal_number c.from_residual.result ≡ number_of c.in_err-machine_refusal.field-0.0 = search rules in
    same ∙ machine-refused _ _ _ _ _ _ c.registers_fit.ensures c.buffer_fits.ensures c.tables_fit.ensures _ c.in_err-machine_refusal.ensures _
    (refused-ne0 _)

pub returns : goal.returns
unfolding served_refusal
returns c = machine-later _ _ _ _ _ _ c.registers_fit.ensures c.buffer_fits.ensures c.tables_fit.ensures _ c.in_ok-machine_refusal.ensures _ _
    refl c.service_refusal.ensures
