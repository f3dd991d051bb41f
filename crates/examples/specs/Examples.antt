-- All examples, in one list.
use Rattle.std.specs.Prelude.{List, ◌++◌}
use Rattle.examples.specs.Claims.{Example}
use Rattle.examples.specs.Marked.{marked}
use Rattle.examples.specs.Accesses.{rows, segments, refusals}
use Rattle.examples.specs.Conditions.{exceptions, hits}
use Rattle.examples.specs.Calls.{calls, fields}
use Rattle.examples.specs.Reads.{reads}
use Rattle.examples.specs.Walks.{walks}
use Rattle.examples.specs.Served.{served}
use Rattle.examples.specs.Stops.{stops}
use Rattle.examples.specs.Stores.{sweeps, stores, guarded_settings}
use Rattle.examples.specs.Pools.{pool_calls, maps, histories}
use Rattle.examples.specs.Ends.{ends}
use Rattle.examples.specs.Sequences.{sequences}
use Rattle.examples.specs.Traces.{traces}
use Rattle.examples.specs.Reports.{reports}

unfoldable pub examples : List Example
examples =
    marked ++ rows ++ segments ++ refusals ++ exceptions ++ hits ++ calls ++ fields ++ reads ++ walks
    ++ served ++ stops ++ sweeps ++ stores ++ guarded_settings ++ pool_calls ++ maps ++ histories ++ ends ++ sequences ++ traces ++ reports
