use Rattle.access.proofs.AccessLaws.{address-off, address-none, address-tested}
use Rattle.access.proofs.exception_address.Goals as goal

pub returns-then-r-eq0 : goal.returns-then-r-eq0
returns-then-r-eq0 c = address-off _ _ _ c.if-r-eq0.true

pub returns-then-r-eq0-2 : goal.returns-then-r-eq0-2
returns-then-r-eq0-2 c = address-none _ _ _ c.if-r-eq0.false c.if-r-eq0-2.true

pub returns : goal.returns
returns c = address-tested _ _ _ c.if-r-eq0.false c.if-r-eq0-2.false
