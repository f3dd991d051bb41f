use Rattle.entry.specs.Address.{location, slot_of}
use borrow.Author.Rules.{rules}
use Rattle.entry.proofs.slot_of.Goals as goal

pub returns : goal.returns
unfolding slot_of location
returns c = search rules
