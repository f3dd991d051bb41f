-- A C host's calls from a start on are a sequence of which demand 3 speaks. Assumes nothing.
use Prim.Native.Nat.{ℕ}
use mathlib.Core.Path.{◌≡◌, refl, sym, ap, ◌∙◌, subst}
use mathlib.Core.Bool.{Bool, true, false, cond}
use mathlib.Core.List.{List, [], ◌∷◌}
use lib.Dec.{eqb}
use Rattle.store.specs.Machine.{Machine}
use Rattle.control.specs.Starting.{start_reply, started_buffer}
use Rattle.control.proofs.CallLaws.{start_gives}
use Rattle.table_bytes.specs.TableBytes.{words_of}
use Rattle.mmu_c.specs.Runs.{buffer_of, machine_of}
use Rattle.mmu_c.specs.Answers.{reply_answer}
use Rattle.mmu_c.proofs.Locations.{buffer-fits}
use Rattle.sequence.specs.Calls.{Event, accepted, handed, left_by}
use Rattle.sequence.specs.Asks.{event_of}
use Rattle.sequence.specs.Systems.{System, begun, system_after}
use Rattle.sequence.specs.Demand3.{Demand3, Handed, HandedThroughout}
use Rattle.sequence.specs.Moments.{system_after_all}
use Rattle.sequence.proofs.Theorem.{demand3}
use Rattle.sequence.proofs.Asking.{event-call, handed-one}
use Rattle.hosts.specs.Bytes.{Bytes, machine_in}
use Rattle.hosts.specs.HostCalls.{HostCall, host_accepts, right_lengths, handed_bytes, call_in, event_in, IsUnitCall}
use Rattle.hosts.specs.HostCalls.HostCall.{HostAccess, HostStore, HostSetting}
use Rattle.hosts.specs.Hosts.{HostEvent, HostStep, bytes_after, bytes_after_all, HostHanded, HostThroughout, unit_event, system_after_call, host_events}
use Rattle.hosts.specs.Hosts.{HostAnswered, AnsweredThroughout, host_system, Started, HostsAreSequences}
use Rattle.hosts.proofs.Trips.{words-fit}
use Rattle.hosts.proofs.HostCalls.{host-calls-are-calls, refused-leave-all, length-not-accepted}
use Rattle.hosts.specs.Hosts.HostStep.{Called, RawRefused}
use Rattle.hosts.proofs.Start.{starts-are-starts}
use Rattle.hosts.proofs.RawAccess.{refused-raw-access-leaves-all}

-- what the unit's call is handed is the machine in the bytes that the host's call is handed
handed-in : (now : Bytes) (c : HostCall) → handed (machine_in now) (call_in c) ≡ machine_in (handed_bytes now c)
unfolding handed call_in handed_bytes machine_in machine_of
handed-in now (HostAccess given a) = refl
handed-in now (HostStore given p) = refl
handed-in now (HostSetting given number value) = refl

-- ---- one call, of a host whose bytes hold the machine of the moment

module _ (now : Bytes) (s : System) (e : HostEvent) (q : machine_in now ≡ s.machine) (h : HostHanded now e) where
  abbrev c : HostCall
  c = e.call

  module _ (w : right_lengths e.call ≡ true) where
    is_call : IsUnitCall now e.call e.answer e.after
    is_call = host-calls-are-calls now e.call e.answer e.after h.typed w h.promised

    same-event : event_in now e.call ≡ unit_event s e
    unfolding event_in unit_event
    same-event = ap (λ (m : Machine). event_of m (call_in c)) q

    same-acceptance : accepted (call_in e.call) ≡ host_accepts e.call
    unfolding accepted host_accepts
    same-acceptance = ap (λ (n : ℕ). eqb n 0) (sym is_call.refusal_is)

    event-acceptance : accepted (unit_event s e).call ≡ host_accepts e.call
    unfolding unit_event
    event-acceptance = ap accepted (event-call s.machine (call_in c)) ∙ same-acceptance

    unit-handed : Handed s.machine (unit_event s e)
    unfolding unit_event
    unit-handed = handed-one s.machine (call_in c) (λ ok.
        ap (λ (m : Machine). handed m (call_in c)) (sym q)
        ∙ handed-in now c
        ∙ ap machine_in (h.same_bytes (sym same-acceptance ∙ ok))
        ∙ q)

  next : machine_in (bytes_after now e) ≡ (system_after_call s e).machine
  unfolding bytes_after system_after_call system_after
  next = by_length (right_lengths c) refl
    where
      left : (b : Bool) → host_accepts c ≡ b → right_lengths c ≡ true
          → machine_in (cond b e.after now) ≡ (system_after s (unit_event s e)).machine
      left true ok w = (is_call w).machine-is ∙ ap left_by (same-event w) ∙ rw (event-acceptance w ∙ ok)
      left false no' w = q ∙ rw (event-acceptance w ∙ no')

      by_length : (t : Bool) → right_lengths c ≡ t
          → machine_in (cond (host_accepts c) e.after now) ≡ (cond t (system_after s (unit_event s e)) s).machine
      by_length true w = left (host_accepts c) refl w
      by_length false w = rw (length-not-accepted c w) q

  answered : HostAnswered now s e
  answered = record {
    as-event = λ w. (is_call w).answer-is ∙ ap (λ (u : Event). reply_answer u.reply) (same-event w);
    no-event = λ w. refused-leave-all now c e.answer e.after (length-not-accepted c w) h.promised;
    machine-is = next;
  }

system-after : (s : System) (e : HostEvent) (t : Bool) → right_lengths e.call ≡ t
    → system_after_call s e ≡ cond t (system_after s (unit_event s e)) s
unfolding system_after_call
system-after s e t w = ap (λ (b : Bool). cond b (system_after s (unit_event s e)) s) w

-- ---- the induction

pub record Ran (now : Bytes) (s : System) (es : List HostStep) : Type 0 where
  pub is-sequence : HandedThroughout s (host_events s es)
  pub answers-are : AnsweredThroughout now s es
  pub machine-is : machine_in (bytes_after_all now es) ≡ (system_after_all s (host_events s es)).machine

-- one call more before a run
module _ (now : Bytes) (s : System) (e : HostEvent) (es : List HostStep) (q : machine_in now ≡ s.machine) (h : HostHanded now e)
    (rest : Ran (bytes_after now e) (system_after_call s e) es) where
  abbrev later : List Event
  later = host_events (system_after_call s e) es

  sequence : (t : Bool) → right_lengths e.call ≡ t → HandedThroughout s (cond t (unit_event s e ∷ later) later)
  unfolding HandedThroughout
  sequence true w = (
    unit-handed now s e q h w,
    subst (λ (x : System). HandedThroughout x later) (system-after s e true w) rest.is-sequence,
  )
  sequence false w = subst (λ (x : System). HandedThroughout x later) (system-after s e false w) rest.is-sequence

  last : (t : Bool) → right_lengths e.call ≡ t
      → (system_after_all (system_after_call s e) later).machine ≡ (system_after_all s (cond t (unit_event s e ∷ later) later)).machine
  unfolding system_after_all
  last true w = ap (λ (x : System). (system_after_all x later).machine) (system-after s e true w)
  last false w = ap (λ (x : System). (system_after_all x later).machine) (system-after s e false w)

  one_more : Ran now s (Called e ∷ es)
  unfolding AnsweredThroughout host_events bytes_after_all
  one_more = record {
    is-sequence = sequence (right_lengths e.call) refl;
    answers-are = (answered now s e q h, rest.answers-are);
    machine-is = rest.machine-is ∙ last (right_lengths e.call) refl;
  }

ran : (now : Bytes) (s : System) (es : List HostStep) → machine_in now ≡ s.machine → HostThroughout now es → Ran now s es
unfolding HostThroughout HandedThroughout AnsweredThroughout host_events bytes_after_all system_after_all
ran now s [] q h = record { is-sequence = tt; answers-are = tt; machine-is = q }
ran now s (RawRefused r ∷ es) q h =
    let rest = ran now s es q h.1 in
    let k = h.0 in
    record {
      is-sequence = rest.is-sequence;
      answers-are = (
        refused-raw-access-leaves-all r.registers r.buffer r.access r.answer r.after k.is-refused k.promised,
        rest.answers-are,
      );
      machine-is = rest.machine-is;
    }
ran now s (Called e ∷ es) q h =
    one_more now s e es q h.0 (ran (bytes_after now e) (system_after_call s e) es (next now s e q h.0) h.1)

-- ---- from the start

begins : (buffer : List ℕ) (started : Bytes) → Started buffer started → machine_in started ≡ (host_system buffer started.tables).machine
unfolding machine_in machine_of host_system begun
begins buffer started s =
    let u = starts-are-starts s.registers buffer s.answer started.registers started.buffer s.accepted s.promised in
    λ j. record { registers = u.registers-are j; buffer = u.buffer-is j; words = words_of started.tables }

pub hosts-are-sequences : HostsAreSequences
unfolding Demand3 host_system
hosts-are-sequences buffer started s es h =
    let q = begins buffer started s in
    let r = ran started (host_system buffer started.tables) es q h in
    record {
      is-sequence = r.is-sequence;
      demand3-holds =
          demand3 (buffer_of buffer) (started_buffer (buffer_of buffer)) (start_reply (buffer_of buffer)) (words_of started.tables)
          (buffer-fits buffer) (start_gives (buffer_of buffer) _ _ refl refl) (words-fit started.tables s.tables-long)
          (host_events (host_system buffer started.tables) es) r.is-sequence;
      starts = q;
      answers-are = r.answers-are;
      machine-is = r.machine-is;
    }
