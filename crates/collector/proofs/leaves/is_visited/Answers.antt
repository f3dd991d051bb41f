use Rattle.collector.proofs.WordLaws.{visited-now}
use Rattle.collector.proofs.leaves.is_visited.Goals as goal

pub returns : goal.returns
returns c = visited-now _ _ _ _ _ c.pfn_of-pfn.ensures c.is_present.ensures
