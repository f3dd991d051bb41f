use Rattle.entry.specs.Entry.{join}
use borrow.Author.Rules.{rules}
use Rattle.entry.proofs.join.Goals as goal

pub returns : goal.returns
unfolding join
returns c = search rules
