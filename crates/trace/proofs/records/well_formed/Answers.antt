use Rattle.trace.specs.Commands.{well_formed, kind_of, index_of}
use Rattle.trace.proofs.records.well_formed.Goals as goal

pub returns : goal.returns
unfolding well_formed kind_of index_of
returns c = rw c.is_plain.ensures
