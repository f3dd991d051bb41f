use Rattle.collector.proofs.WordLaws.{pfn-now}
use Rattle.collector.proofs.leaves.pfn_of.Goals as goal

pub returns : goal.returns
returns c = pfn-now _
