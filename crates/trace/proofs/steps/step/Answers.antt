use mathlib.Core.Path.{ap, ◌∙◌}
use Rattle.registers.specs.Replies.{refused}
use Rattle.trace.proofs.StepLaws.{serve-step, store_step, set-step, malformed-step}
use Rattle.trace.proofs.steps.step.Goals as goal

pub returns-in-Serve : goal.returns-in-Serve
returns-in-Serve c = serve-step _ _ _ _ _ c.in-Serve.is
    c.served_access.ensures

pub returns-in-Store : goal.returns-in-Store
returns-in-Store c = store_step _ _ _ _ _ _ _ c.in-Store.is
    c.table_store.ensures

pub returns-in-Set : goal.returns-in-Set
returns-in-Set c = set-step _ _ _ _ _ c.in-Set.is c.guarded_setting.ensures

pub returns-in-Malformed : goal.returns-in-Malformed
returns-in-Malformed c = malformed-step _ _ _ c.in-Malformed.is (c.refused.ensures ∙ ap (refused _) c.from.ensures)
