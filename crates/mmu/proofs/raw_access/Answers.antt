use Prim.Native.Nat.{ℕ}
use mathlib.Core.Path.{refl, sym, ap, ◌∙◌}
use Rattle.registers.proofs.RefusalLaws.{when-accepted, when-refused, refused-ne0}
use Rattle.mmu.specs.RawAccess.{raw_reply, raw_refused}
use Rattle.std.specs.Prelude.{Ok}
use Rattle.mmu.proofs.RawLaws.{raw-accepted, raw-gives}
use Rattle.mmu.proofs.raw_access.Goals as goal

pub returns-in-Err : goal.returns-in-Err
unfolding raw_reply
returns-in-Err c = raw-gives _ _ _ _ (when-refused _ _ c.in-Err.ensures _ _ _ (refused-ne0 _)
    (ap (λ (n : ℕ). raw_refused n c.args.r) (c.from.ensures ∙ c.in-Err.ensures)))

pub translate-requires : goal.translate-requires
translate-requires c = raw-accepted _ _ _ (sym c.in_default.ensures)

pub returns : goal.returns
unfolding raw_reply
returns c = raw-gives _ _ _ _ (when-accepted _ _ c.in_default.ensures _ _ _ refl
    (ap Ok c.translate.ensures))
