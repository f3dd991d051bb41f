-- What the word says, by its present bit and the levels below it.
use Rattle.page_table.specs.Walk.{stop_at}
use Rattle.page_table.specs.Ends.{ending}
use Rattle.page_table.proofs.Descents.{says-absent, says-leaf, says-broken}
use Rattle.page_table.proofs.ended.Goals as goal

pub returns-then-not-is_present : goal.returns-then-not-is_present
unfolding stop_at ending
returns-then-not-is_present c = says-absent _ _ _ _ _ c.is_present.ensures c.if-not-is_present.true

pub returns-then-end-eq0 : goal.returns-then-end-eq0
unfolding ending
returns-then-end-eq0 c = says-leaf _ _ _ _ _ c.is_present.ensures c.if-not-is_present.false c.if-end-eq0.true

pub returns : goal.returns
unfolding stop_at ending
returns c = says-broken _ _ _ _ _ c.is_present.ensures c.if-not-is_present.false c.if-end-eq0.false
