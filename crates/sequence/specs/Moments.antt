-- The system and the moment after a list of events.
use Rattle.std.specs.Prelude.{List, [], ◌∷◌}
use Rattle.sequence.specs.Calls.{Event}
use Rattle.sequence.specs.Systems.{System, system_after, Moment}
use Rattle.sequence.specs.Systems.Moment.{After}

unfoldable pub system_after_all : System → List Event → System
system_after_all s [] = s
system_after_all s (e ∷ es) = system_after_all (system_after s e) es

-- the moment that its last event makes; the given one where there is no event
unfoldable pub moment_after_all : System → Moment → List Event → Moment
moment_after_all s at [] = at
moment_after_all s at (e ∷ es) = moment_after_all (system_after s e) (After s e) es
