-- What holds throughout a sequence holds from each of its moments on. Assumes nothing.
use mathlib.Core.Path.{◌≡◌, refl, ap}
use mathlib.Core.List.{List, [], ◌∷◌, ◌++◌}
use Rattle.sequence.specs.Calls.{Event}
use Rattle.sequence.specs.Systems.{System, system_after, Moment}
use Rattle.sequence.specs.Systems.Moment.{After}
use Rattle.sequence.specs.Demand3.{Holds, HoldsThroughout, HandedThroughout}
use Rattle.sequence.specs.Asks.{Ask, call_of, event_of, events_of}
use Rattle.sequence.specs.Moments.{system_after_all, moment_after_all}

pub holds-now : (s : System) (at : Moment) (es : List Event) → HoldsThroughout s at es → Holds s at
unfolding HoldsThroughout
holds-now s at [] h = h
holds-now s at (e ∷ es) h = h.0

pub holds-from : (s : System) (at : Moment) (es fs : List Event) → HoldsThroughout s at (es ++ fs)
    → HoldsThroughout (system_after_all s es) (moment_after_all s at es) fs
unfolding HoldsThroughout system_after_all moment_after_all
holds-from s at [] fs h = h
holds-from s at (e ∷ es) fs h = holds-from (system_after s e) (After s e) es fs h.1

pub handed-from : (s : System) (es fs : List Event) → HandedThroughout s (es ++ fs) → HandedThroughout (system_after_all s es) fs
unfolding HandedThroughout system_after_all
handed-from s [] fs h = h
handed-from s (e ∷ es) fs h = handed-from (system_after s e) es fs h.1

-- at the event behind some others
pub holds_after : (s : System) (at : Moment) (es : List Event) (e : Event) (fs : List Event) → HoldsThroughout s at (es ++ (e ∷ fs))
    → Holds (system_after (system_after_all s es) e) (After (system_after_all s es) e)
unfolding HoldsThroughout
holds_after s at es e fs h = holds-now _ _ fs (holds-from s at es (e ∷ fs) h).1

-- the events of requests that follow others
pub events-append : (s : System) (qs rs : List Ask)
    → events_of s (qs ++ rs) ≡ events_of s qs ++ events_of (system_after_all s (events_of s qs)) rs
unfolding events_of system_after_all
events-append s [] rs = refl
events-append s (q ∷ qs) rs =
    let e = event_of s.machine (call_of s.machine q) in ap (λ (es : List Event). e ∷ es) (events-append (system_after s e) qs rs)
