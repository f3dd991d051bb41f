use Rattle.entry.specs.Empty.{empty_entry, empty_fields}
use Rattle.entry.proofs.empty_entry.Goals as goal

pub returns : goal.returns
unfolding empty_entry empty_fields
returns c = c.pack.ensures
