-- No stale entry answers a host, and an aged page raises its exception. Assumes nothing.
use Prim.Native.Nat.{ℕ, ◌≤◌}
use mathlib.Core.Path.{◌≡◌, refl, sym, ap, ◌∙◌, subst}
use mathlib.Core.Bool.{Bool, true, false, cond}
use mathlib.Core.List.{List, [], ◌∷◌, ◌++◌}
use native.Mathlib.Omega.{arith}
use borrow.Author.Tests.{eq-eqb}
use Rattle.runs.proofs.Bools.{clash}
use Rattle.runs.specs.Bits.{bits, flag}
use Rattle.registers.specs.Refusals.{by_refusal}
use Rattle.registers.specs.declared.Access.{Access}
use Rattle.registers.specs.declared.Outcome.{Outcome}
use Rattle.registers.specs.declared.Outcome.TheVariants.{At, Fault, Done, Refused}
use Rattle.registers.specs.declared.Reply.{Reply}
use Rattle.page_table.specs.Faults.{walk_fault, Tells}
use Rattle.page_table.specs.declared.Stop.{Stop}
use Rattle.page_table.specs.declared.Walk.TheVariants.{Absent, Broken}
use Rattle.control.specs.Starting.{start_reply, started_buffer}
use Rattle.control.proofs.CallLaws.{start_gives}
use Rattle.store.specs.Machine.{Machine}
use Rattle.table_bytes.specs.TableBytes.{words_of}
use Rattle.mmu.specs.ServedAccess.{walk_for, access_reply, served_refusal, served_reply}
use Rattle.mmu.specs.FaultValues.{IsFault}
use Rattle.mmu_c.specs.FaultAnswers.{FaultRead}
use Rattle.mmu_c.specs.Runs.{buffer_of}
use Rattle.mmu_c.proofs.Locations.{buffer-fits}
use Rattle.sequence.specs.Calls.{Event, refusal, accepted}
use Rattle.sequence.specs.Calls.Call.{ServedAccess}
use Rattle.sequence.specs.Asks.{event_of}
use Rattle.sequence.specs.Systems.{System}
use Rattle.sequence.specs.Demand3.{HandedThroughout}
use Rattle.sequence.specs.Pages.{AddressOfLeaf, FromTables, RaisedIfAged, InvalidPageRaised, AfterAnySequence}
use Rattle.sequence.specs.Reader.{found_leaf}
use Rattle.sequence.proofs.Serving.{access-no-load}
use Rattle.sequence.proofs.Pages.{no-stale-entry, aged-page-raises}
use Rattle.hosts.specs.Bytes.{Bytes, machine_in}
use Rattle.hosts.specs.HostCalls.{HostCall, host_refusal, host_accepts, right_lengths, Typed, HostPromise, call_in, event_in}
use Rattle.hosts.specs.HostCalls.HostCall.{HostAccess}
use Rattle.hosts.specs.Reading.{OutcomeRead}
use Rattle.hosts.specs.Hosts.{HostEvent, HostStep, bytes_after, bytes_after_all, HostHanded, HostThroughout, unit_event, system_after_call, host_events}
use Rattle.hosts.specs.Hosts.HostStep.{Called, RawRefused}
use Rattle.hosts.specs.Hosts.{host_system}
use Rattle.hosts.specs.Pages.{StopRead, ReadFromTables, FaultBetween, ReadIfAged, AfterAnyCalls, HostNoStaleEntry}
use Rattle.hosts.specs.Pages.{HostAgedPageRaises}
use Rattle.hosts.proofs.Trips.{words-fit}
use Rattle.hosts.proofs.Bounds.{AddressWithin, access-address}
use Rattle.hosts.proofs.HostCalls.{host-calls-are-calls, length-not-accepted}
use Rattle.hosts.proofs.Reading.{answers-read, refusals-read}
use Rattle.hosts.proofs.Hosts.{hosts-are-sequences}

-- ---- the last of some calls, as an event behind others

-- the system after some calls
unfoldable system_after_calls : System → List HostStep → System
system_after_calls s [] = s
system_after_calls s (Called e ∷ es) = system_after_calls (system_after_call s e) es
system_after_calls s (RawRefused r ∷ es) = system_after_calls s es

events-behind : (s : System) (es : List HostStep) (e : HostEvent) → right_lengths e.call ≡ true
    → host_events s (es ++ (Called e ∷ [])) ≡ host_events s es ++ (unit_event (system_after_calls s es) e ∷ [])
unfolding host_events system_after_calls
events-behind s [] e w = rw w
events-behind s (RawRefused r ∷ es) e w = events-behind s es e w
events-behind s (Called x ∷ es) e w = by_length (right_lengths x.call) (events-behind (system_after_call s x) es e w)
  where
    next : System
    next = system_after_call s x

    by_length : (t : Bool)
        → host_events next (es ++ (Called e ∷ [])) ≡ host_events next es ++ (unit_event (system_after_calls next es) e ∷ [])
        → cond t (unit_event s x ∷ host_events next (es ++ (Called e ∷ []))) (host_events next (es ++ (Called e ∷ [])))
        ≡ cond t (unit_event s x ∷ host_events next es) (host_events next es) ++ (unit_event (system_after_calls next es) e ∷ [])
    by_length true q = ap (λ (us : List Event). unit_event s x ∷ us) q
    by_length false q = q

-- what the last call was handed
last-handed : (now : Bytes) (es : List HostStep) (e : HostEvent) → HostThroughout now (es ++ (Called e ∷ []))
    → HostHanded (bytes_after_all now es) e
unfolding HostThroughout bytes_after_all
last-handed now [] e h = h.0
last-handed now (Called x ∷ es) e h = last-handed (bytes_after now x) es e h.1
last-handed now (RawRefused r ∷ es) e h = last-handed now es e h.1

-- ---- an accepted access of a host

pub record Accessed (m : Machine) (a : Access) (answer : ℕ) : Type 0 where
  pub is_read : OutcomeRead (served_reply m a).outcome (served_reply m a).loads answer
  pub is-accepted : served_refusal m a ≡ 0
  pub narrow : a.address ≤ 4294967295

module _ (now given : Bytes) (a : Access) (answer : ℕ) (after : Bytes) (t : Typed (HostAccess given a))
    (g : HostPromise now (HostAccess given a) answer after) (z : bits 63 56 answer ≡ 0) where
  not-refused : host_refusal (HostAccess given a) ≡ 0
  not-refused = sym (refusals-read now (HostAccess given a) answer after t g) ∙ z

  right : right_lengths (HostAccess given a) ≡ true
  unfolding host_accepts
  right = by_length (right_lengths (HostAccess given a)) refl
    where
      by_length : (w : Bool) → right_lengths (HostAccess given a) ≡ w → w ≡ true
      by_length true e = refl
      by_length false e =
          absurd (clash (eq-eqb (host_refusal (HostAccess given a)) 0 not-refused) (length-not-accepted (HostAccess given a) e))

  accessed : Accessed (machine_in given) a answer
  unfolding Typed call_in event_in event_of refusal
  accessed = record {
    is_read = answers-read now (HostAccess given a) answer after t right g;
    is-accepted = sym (host-calls-are-calls now (HostAccess given a) answer after t right g).refusal_is ∙ not-refused;
    narrow = omega (arith, t.1);
  }

-- ---- from what the access replied to what is read

module _ (m : Machine) (a : Access) (answer : ℕ) (d : Accessed m a answer) where
  reply-is : served_reply m a ≡ access_reply m a
  unfolding served_reply by_refusal
  reply-is = rw (eq-eqb (served_refusal m a) 0 d.is-accepted)

  read : OutcomeRead (access_reply m a).outcome (access_reply m a).loads answer
  read = subst (λ (r : Reply). OutcomeRead r.outcome r.loads answer) reply-is d.is_read

  address-or-fault : AddressWithin (access_reply m a).outcome
  address-or-fault = access-address m a (omega (arith, d.narrow))

  -- a fault, where the walk found no leaf
  stop-read : (value kind : ℕ) (s : Stop) → found_leaf (walk_for m a) ≡ false → (access_reply m a).outcome ≡ Fault value → Tells value kind s
      → StopRead answer value kind s
  unfolding OutcomeRead
  stop-read value kind s none q told =
      let f : FaultRead 0 answer value
      = subst (λ (n : ℕ). OutcomeRead (Fault value) n answer) (access-no-load m a none)
      (subst (λ (o : Outcome). OutcomeRead o (access_reply m a).loads answer) q read) in
      record {
        is-fault = f;
        kind-is = f.kind-is ∙ told.kind-is;
        level-is = f.level-is ∙ told.level-is;
        tree_is = f.tree_is ∙ told.tree_is;
      }

  -- an address is the outcome's
  address_read : (outcome : Outcome) (loads : ℕ) → OutcomeRead outcome loads answer → AddressWithin outcome → flag 52 answer ≡ true
      → ((address : ℕ) → outcome ≡ At address → AddressOfLeaf m a address) → AddressOfLeaf m a (bits 31 0 answer)
  unfolding OutcomeRead AddressWithin
  address_read (At address) loads r w e k = subst (AddressOfLeaf m a) (sym r.address_is) (k address refl)
  address_read (Fault value) loads r w e k = absurd (clash e r.no_address.1)
  address_read (Done emptied) loads r w e k = absurd w
  address_read (Refused number) loads r w e k = absurd w

  -- a fault between two values is read so
  fault-between : (low high : ℕ) (outcome : Outcome) (loads : ℕ) → OutcomeRead outcome loads answer
      → IsFault (λ value. (low ≤ value) × (value ≤ high)) outcome → FaultBetween low high answer
  unfolding OutcomeRead IsFault
  fault-between low high (Fault value) loads r w = record {
    value-from = rw r.value-is w.0;
    value-to = rw r.value-is w.1;
    is-fault = r.is-fault;
    no_address = r.no_address.1;
  }
  fault-between low high (At address) loads r w = absurd w
  fault-between low high (Done emptied) loads r w = absurd w
  fault-between low high (Refused number) loads r w = absurd w

  from-tables : FromTables m a (served_reply m a).outcome → ReadFromTables m a answer
  unfolding found_leaf
  from-tables f =
      let h = subst (λ (r : Reply). FromTables m a r.outcome) reply-is f in
      record {
        absent = λ s e. let k = h.absent s e in stop-read (walk_fault (Absent s)) 16 s (ap found_leaf e) k.0 k.1;
        broken = λ s e. let k = h.broken s e in stop-read (walk_fault (Broken s)) 32 s (ap found_leaf e) k.0 k.1;
        address-of-leaf = λ e. address_read (access_reply m a).outcome _ read address-or-fault e h.address-of-leaf;
      }

  if-aged : RaisedIfAged m a (served_reply m a).outcome → ReadIfAged m a answer
  unfolding RaisedIfAged ReadIfAged IsFault
  if-aged raised f leaf aged =
      let h = subst (λ (r : Reply). InvalidPageRaised m r.outcome) reply-is (raised f leaf aged) in
      record {
        with-inv-exc = λ on. fault-between 4 7 (access_reply m a).outcome _ read (h.with-inv-exc on);
        without = λ off. fault-between 8 8 (access_reply m a).outcome _ read
            (subst (IsFault (λ value. (8 ≤ value) × (value ≤ 8))) (sym (h.without off)) (omega arith, omega arith));
      }

-- ---- its event

module _ (s : System) (e : HostEvent) (given : Bytes) (a : Access) (is : e.call ≡ HostAccess given a) where
  event-is : unit_event s e ≡ event_of s.machine (ServedAccess (machine_in given) a)
  unfolding unit_event call_in
  event-is = ap (λ (c : HostCall). event_of s.machine (call_in c)) is

  call-is : (unit_event s e).call ≡ ServedAccess (machine_in given) a
  unfolding event_of
  call-is = ap (λ (u : Event). u.call) event-is

  call-accepted : served_refusal (machine_in given) a ≡ 0 → accepted (unit_event s e).call ≡ true
  unfolding accepted refusal
  call-accepted z = rw call-is (eq-eqb (served_refusal (machine_in given) a) 0 z)

-- ---- after any calls

after_any : (Says : (m : Machine) (a : Access) (outcome : Outcome) → Type 0) (Reads : (m : Machine) (a : Access) (answer : ℕ) → Type 0)
    → AfterAnySequence Says
    → ((m : Machine) (a : Access) (answer : ℕ) → Accessed m a answer → Says m a (served_reply m a).outcome → Reads m a answer)
    → AfterAnyCalls Reads
unfolding AfterAnySequence AfterAnyCalls host_system event_of
after_any Says Reads always reads buffer started st earlier last h given a is z by =
    let s = host_system buffer started.tables in
    let run = hosts-are-sequences buffer started st (earlier ++ (Called last ∷ [])) h in
    let now = bytes_after_all started earlier in
    let hh = last-handed started earlier last h in
    let t = subst Typed is hh.typed in
    let g = subst (λ (c : HostCall). HostPromise now c last.answer last.after) is hh.promised in
    let d = accessed now given a last.answer last.after t g z in
    let w : right_lengths last.call ≡ true = ap right_lengths is ∙ right now given a last.answer last.after t g z in
    let k = subst (HandedThroughout s) (events-behind s earlier last w) run.is-sequence in
    let u = unit_event (system_after_calls s earlier) last in
    reads (machine_in given) a last.answer d
    (subst (λ (x : Event). Says (machine_in given) a x.reply.outcome) (event-is (system_after_calls s earlier) last given a is)
    (always (buffer_of buffer) (started_buffer (buffer_of buffer)) (start_reply (buffer_of buffer)) (words_of started.tables)
    (buffer-fits buffer) (start_gives (buffer_of buffer) _ _ refl refl) (words-fit started.tables st.tables-long)
    (host_events s earlier) u k (machine_in given) a (call-is (system_after_calls s earlier) last given a is)
    (call-accepted (system_after_calls s earlier) last given a is d.is-accepted) by))

pub host-no-stale-entry : HostNoStaleEntry
host-no-stale-entry = after_any FromTables ReadFromTables no-stale-entry from-tables

pub host-aged-page-raises : HostAgedPageRaises
host-aged-page-raises = after_any RaisedIfAged ReadIfAged aged-page-raises if-aged
