use mathlib.Core.Path.{refl, ap, sym, ◌∙◌}
use Rattle.registers.proofs.RefusalLaws.{refused-ne0}
use Rattle.registers.specs.Replies.{refused}
use Rattle.store.proofs.StoreLaws.{store-accepted, store-refused, store-done}
use Rattle.store.proofs.table_store.Goals as goal

pub returns-in-Err : goal.returns-in-Err
returns-in-Err c = store-refused _ _ _ c.in-Err.ensures _ (refused-ne0 _) (c.refused.ensures ∙ ap (refused _) c.from.ensures)

pub rewrite-emptied-requires : goal.rewrite-emptied-requires
rewrite-emptied-requires c = store-accepted _ _ (sym c.in_default.ensures)

pub returns : goal.returns
returns c = store-done _ _ _ c.in_default.ensures _ _ _ _
    refl
    c.rewrite-emptied.ensures c.done.ensures
