-- What the records give to the totals is what their events give. Assumes nothing.
use Prim.Native.Nat.{ℕ}
use mathlib.Core.Path.{◌≡◌, refl, ap, ap₂, ◌∙◌}
use mathlib.Core.Bool.{Bool, true, false, cond}
use mathlib.Core.List.{List, [], ◌∷◌}
use lib.Dec.{eqb}
use lib.IntN.{ℤ, pos, ◌+ℤ◌, +ℤ_idl}
use Rattle.registers.specs.declared.Access.{Access}
use Rattle.registers.specs.declared.Outcome.{Outcome}
use Rattle.registers.specs.declared.Outcome.TheVariants.{Refused}
use Rattle.registers.specs.declared.Reply.{Reply}
use Rattle.store.specs.Machine.{Machine}
use Rattle.sequence.specs.Reader.{Settings, settings_of}
use Rattle.sequence.specs.Requests.{Request, effect_of}
use Rattle.sequence.specs.Requests.Request.{ToAccess, ToStore, ToSet}
use Rattle.sequence.specs.Calls.{Event, accepted, request_of, effect_by, call_on}
use Rattle.sequence.specs.Systems.{System, system_after, Moment, IfRefused}
use Rattle.sequence.specs.Systems.Moment.{After}
use Rattle.sequence.specs.Demand3.{Holds, HoldsThroughout}
use Rattle.sequence.specs.Asks.{call_of, event_of, events_of}
use Rattle.sequence.proofs.Moments.{holds-now}
use Rattle.trace.specs.Steps.{step_reply, machine_after_step}
use Rattle.trace.specs.declared.Command.{Command}
use Rattle.trace.specs.declared.Command.TheVariants.{Serve as ServeRecord, Store as StoreRecord, Set as SetRecord, Malformed}
use Rattle.report.specs.Totals.{Gain}
use Rattle.report.specs.Gains.{access_gains, store_gains, leaf_change, gains_of}
use Rattle.report.specs.Sums.{amount_in, added, sum_of}
use Rattle.replays.specs.Traces.{asks_of}
use Rattle.replays.specs.Sums.{effect_gains, event_gains, added_by, sum_over}
use Rattle.replays.proofs.Traces.{next, served-machine, stored-machine, set-machine, malformed-machine}

-- the event of a request, put to the machine of its moment
abbrev event : System → Request → Event
event s q = event_of s.machine (call_on s.machine q)

-- a refused event answers a refusal, and that gives nothing
refused-gains : (outcome : Outcome) (number : ℕ) → outcome ≡ Refused number → (loads : ℕ) (change : ℤ)
    → (access_gains outcome loads ≡ []) × (store_gains outcome change ≡ [])
unfolding access_gains store_gains
refused-gains outcome number e loads change = rw e (refl, refl)

module _ (s : System) (at : Moment) (q : Request) (before : Holds s at) (after : Holds (next s q) (After s (event s q))) where
  refused-outcome : accepted (event s q).call ≡ false → (number : ℕ) × ((event s q).reply.outcome ≡ Refused number)
  unfolding IfRefused
  refused-outcome no' = (_, ap (λ (r : Reply). r.outcome) (after.refusal-has-no-effect no').reply-is)

  -- the gains of its own effect are those of an accepted event
  gains-by : (gains : List Gain)
      → (accepted (event s q).call ≡ true
      → gains ≡ effect_gains (effect_by (event s q).call) s.reader.words (next s q).reader.words (event s q).reply)
      → (accepted (event s q).call ≡ false → gains ≡ [])
      → gains ≡ event_gains s (event s q)
  unfolding event_gains
  gains-by gains yes' no' = by-test (accepted (event s q).call) refl
    where
      by-test : (b : Bool) → accepted (event s q).call ≡ b
          → gains ≡ cond b (effect_gains (effect_by (event s q).call) s.reader.words (next s q).reader.words (event s q).reply) []
      by-test true e = yes' e
      by-test false e = no' e

serve-gains : (s : System) (at : Moment) (a : Access) → Holds s at → Holds (next s (ToAccess a)) (After s (event s (ToAccess a)))
    → gains_of s.machine (ServeRecord a) ≡ event_gains s (event s (ToAccess a))
unfolding gains_of step_reply event_of call_on effect_gains effect_by request_of effect_of
serve-gains s at a before after =
    gains-by s at (ToAccess a) before after _ (λ ok. refl)
    (λ no'. let r = refused-outcome s at (ToAccess a) before after no' in (refused-gains _ r.0 r.1 _ (pos 0)).0)

store-gains : (s : System) (at : Moment) (index value : ℕ) → let q = ToStore (record { index = index; value = value }) in
    Holds s at → Holds (next s q) (After s (event s q)) → gains_of s.machine (StoreRecord index value) ≡ event_gains s (event s q)
unfolding gains_of step_reply event_of call_on effect_gains effect_by request_of effect_of machine_after_step
store-gains s at index value before after =
    gains-by s at q before after _
    (λ ok. ap₂ (λ (x y : List ℕ). store_gains (event s q).reply.outcome (leaf_change x y)) before.same-words
    (ap (λ (m : Machine). m.words) (stored-machine s index value) ∙ after.same-words))
    (λ no'. let r = refused-outcome s at q before after no' in (refused-gains _ r.0 r.1 0 _).1)
  where
    q : Request
    q = ToStore (record { index = index; value = value })

set-gains : (s : System) (at : Moment) (number value : ℕ) → Holds s at
    → Holds (next s (ToSet number value)) (After s (event s (ToSet number value)))
    → gains_of s.machine (SetRecord number value) ≡ event_gains s (event s (ToSet number value))
unfolding gains_of event_of call_on effect_gains effect_by request_of effect_of
set-gains s at number value before after = gains-by s at (ToSet number value) before after [] (λ ok. refl) (λ no'. refl)

-- ---- sums

same-context : (s : System) (at : Moment) → Holds s at → s.machine.registers.context ≡ s.reader.settings.context
unfolding settings_of
same-context s at h = ap (λ (d : Settings). d.context) h.same-settings

-- what a record adds is what its event adds
module _ (s : System) (at : Moment) (before : Holds s at) (c : Command) (e : Event) (id column : ℕ)
    (same : gains_of s.machine c ≡ event_gains s e) (led : machine_after_step s.machine c ≡ (system_after s e).machine) (cs : List Command)
    (es : List Event) (rest : sum_of (system_after s e).machine cs id column ≡ sum_over (system_after s e) es id column) where
  added-same : added s.machine c id column ≡ added_by s e id column
  unfolding added added_by
  added-same =
      ap₂ (λ (n : ℕ) (gs : List Gain). cond (eqb n id) (amount_in column gs) (pos 0)) (same-context s at before) same

  sum_then : sum_of s.machine (c ∷ cs) id column ≡ sum_over s (e ∷ es) id column
  unfolding sum_of sum_over
  sum_then = ap₂ ◌+ℤ◌ added-same (ap (λ (m : Machine). sum_of m cs id column) led ∙ rest)

none-added : (m : Machine) (cs : List Command) (id column : ℕ) → sum_of m (Malformed ∷ cs) id column ≡ sum_of m cs id column
unfolding sum_of added gains_of amount_in
none-added m cs id column =
    ap (λ (x : Machine). cond (eqb m.registers.context id) (pos 0) (pos 0) +ℤ sum_of x cs id column) (malformed-machine m)
    ∙ by-test (eqb m.registers.context id)
  where
    by-test : (b : Bool) → cond b (pos 0) (pos 0) +ℤ sum_of m cs id column ≡ sum_of m cs id column
    by-test true = +ℤ_idl (sum_of m cs id column)
    by-test false = +ℤ_idl (sum_of m cs id column)

-- the sums over any records are those over their events
pub sums-are : (s : System) (at : Moment) (cs : List Command) (id column : ℕ) → HoldsThroughout s at (events_of s (asks_of cs))
    → sum_of s.machine cs id column ≡ sum_over s (events_of s (asks_of cs)) id column
unfolding HoldsThroughout asks_of events_of call_of sum_of sum_over
sums-are s at [] id column h = refl
sums-are s at (ServeRecord a ∷ cs) id column h =
    let q = ToAccess a in
    let rest = events_of (next s q) (asks_of cs) in
    sum_then s at h.0 (ServeRecord a) (event s q) id column (serve-gains s at a h.0 (holds-now _ _ rest h.1)) (served-machine s a) cs
    rest (sums-are (next s q) (After s (event s q)) cs id column h.1)
sums-are s at (StoreRecord index value ∷ cs) id column h =
    let q = ToStore (record { index = index; value = value }) in
    let rest = events_of (next s q) (asks_of cs) in
    sum_then s at h.0 (StoreRecord index value) (event s q) id column (store-gains s at index value h.0 (holds-now _ _ rest h.1))
    (stored-machine s index value) cs rest (sums-are (next s q) (After s (event s q)) cs id column h.1)
sums-are s at (SetRecord number value ∷ cs) id column h =
    let q = ToSet number value in
    let rest = events_of (next s q) (asks_of cs) in
    sum_then s at h.0 (SetRecord number value) (event s q) id column (set-gains s at number value h.0 (holds-now _ _ rest h.1))
    (set-machine s number value) cs rest (sums-are (next s q) (After s (event s q)) cs id column h.1)
sums-are s at (Malformed ∷ cs) id column h = none-added s.machine cs id column ∙ sums-are s at cs id column h
