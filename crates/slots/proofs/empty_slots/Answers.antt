use Rattle.slots.proofs.Start.{sets-begin, sets-turn, sets_end}
use Rattle.slots.proofs.empty_slots.Goals as goal

pub loop-set-init : goal.loop-set-init
loop-set-init c = sets-begin _ c.requires

pub loop-set-preserved : goal.loop-set-preserved
loop-set-preserved c = sets-turn _ _ _ _ _ c.loop-set.invariant c.loop-set-test.true c.empty_entry-e.ensures
    (c.fill.ensures.after (λ y same. same))

pub returns : goal.returns
returns c = sets_end _ _ _ c.loop-set.invariant c.loop-set-test.false
