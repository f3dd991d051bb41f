-- The hit test is the reference's formula. Assumes nothing.
use mathlib.Core.Path.{refl, sym, ap, ◌∙◌}
use mathlib.Core.Bool.{Bool, ◌||◌}
use Rattle.runs.specs.Bits.{bits, flag}
use Rattle.entry.specs.Address.{vpn15_of}
use Rattle.entry.specs.Entry.{unpack}
use Rattle.tlb.specs.Hit.{valid_or_inv_exc, vpn15_matches, id_matches_or_global}
use Rattle.tlb.specs.Formula.{formula, HitIsFormula}
use Rattle.tlb.proofs.HitLaws.{compared, joined}

pub hit-is-formula : HitIsFormula
unfolding formula vpn15_of valid_or_inv_exc vpn15_matches id_matches_or_global unpack
hit-is-formula inv-excp context-pid vpn e answer given =
    given
    ∙ sym (joined inv-excp context-pid vpn (unpack e) _ _ _ refl (compared (vpn15_of vpn) {n = bits 43 29 e} refl)
    (ap (λ (t : Bool). t || flag 22 e) (compared context-pid {n = bits 28 23 e} refl)))
