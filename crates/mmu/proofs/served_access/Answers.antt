use Rattle.registers.proofs.RefusalLaws.{refused-ne0}
use Rattle.registers.specs.Replies.{refused}
use mathlib.Core.Path.{refl, ap, sym, ◌∙◌}
use Rattle.mmu.proofs.ServedLaws.{served-accepted, served-refused, served-done}
use Rattle.mmu.proofs.served_access.Goals as goal

pub returns-in-Err : goal.returns-in-Err
returns-in-Err c = served-refused _ _ _ c.in-Err.ensures _ (refused-ne0 _) (c.refused.ensures ∙ ap (refused _) c.from.ensures)

pub serve-requires : goal.serve-requires
serve-requires c = served-accepted _ _ (sym c.in_default.ensures)

pub returns : goal.returns
returns c = served-done _ _ _ c.in_default.ensures _ _
    refl c.serve.ensures
