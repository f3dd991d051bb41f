-- What a host reads off the answer of each call. Assumes nothing.
use Prim.Native.Nat.{ℕ, ◌<◌}
use mathlib.Core.Path.{◌≡◌, refl, sym, ap, ◌∙◌, subst}
use mathlib.Core.Bool.{Bool, true, false, cond, not}
use mathlib.Core.List.{List}
use native.Mathlib.Omega.{arith}
use lib.Dec.{eqb}
use borrow.Author.Tests.{eq-eqb, ne_eqb, eqb-true, ltb-true, lt-ltb}
use Rattle.std.specs.Prelude.{Option, Some, None}
use Rattle.runs.proofs.Bools.{clash}
use Rattle.runs.proofs.Counts.{count-le}
use Rattle.runs.specs.Bits.{bits}
use Rattle.registers.specs.Refusals.{by_refusal}
use Rattle.registers.specs.Replies.{refused, done}
use Rattle.registers.specs.declared.Access.{Access}
use Rattle.registers.specs.declared.Outcome.{Outcome}
use Rattle.registers.specs.declared.Outcome.TheVariants.{At, Fault, Done, Refused}
use Rattle.registers.specs.declared.Registers.{Registers}
use Rattle.registers.specs.declared.Reply.{Reply}
use Rattle.access.specs.Translation.{translate}
use Rattle.access.specs.declared.Translation.{Translation}
use Rattle.store.specs.Machine.{Machine}
use Rattle.store.specs.Rewrite.{Put}
use Rattle.store.specs.Sweep.{kept_at, emptied}
use Rattle.store.specs.TableStore.{stored_words, store_reply}
use Rattle.control.specs.Setting.{setting_reply}
use Rattle.mmu.specs.ServedAccess.{access_reply, served_reply}
use Rattle.mmu.specs.FaultValues.{IfFault}
use Rattle.mmu_c.specs.Runs.{registers_of, buffer_of, registers_long, buffer_taken}
use Rattle.mmu_c.specs.Answers.{raw_answer, translation_answer, outcome_answer, reply_answer, outcome_fits}
use Rattle.mmu_c.specs.RawAccess.{raw_refusal, translation, raw_number}
use Rattle.mmu_c.specs.Start.{start_refusal, start_number}
use Rattle.mmu_c.proofs.FaultAnswers.{fault-read}
use Rattle.mmu_c.proofs.AnswerLaws.{refusal-room}
use Rattle.mmu_c.proofs.RawLaws.{value_room}
use Rattle.mmu_c.proofs.RawLaws.{refusal-lt as raw-lt}
use Rattle.mmu_c.proofs.ServedLaws.{refusal-lt as access-lt}
use Rattle.mmu_c.proofs.ServedLaws.{access-fits}
use Rattle.mmu_c.proofs.StoreLaws.{refusal-lt as store_lt}
use Rattle.mmu_c.proofs.SettingLaws.{refusal-lt as setting-lt}
use Rattle.sequence.specs.Calls.{refusal}
use Rattle.sequence.specs.Asks.{event_of}
use Rattle.hosts.specs.Bytes.{Bytes, machine_in}
use Rattle.hosts.specs.HostCalls.{HostCall, host_refusal, host_accepts, right_lengths, Typed, HostPromise, call_in, event_in}
use Rattle.hosts.specs.HostCalls.HostCall.{HostAccess, HostStore, HostSetting}
use Rattle.hosts.specs.Reading.{OutcomeRead, AnswersRead, RefusalsRead, StartsRead, LocatedRead, RawRead, RawAccessesRead}
use Rattle.hosts.proofs.AnswerBits.{access-read, refusal-read, emptied-read}
use Rattle.hosts.proofs.Bounds.{Within32, translate-within, AddressWithin, access-address}
use Rattle.hosts.proofs.HostCalls.{host-calls-are-calls, refused-leave-all, length-not-accepted}

-- ---- a reply that is no refusal, and what is read off its answer

unfoldable Carried : Outcome → Type 0
Carried (At address) = address < 4294967296
Carried (Fault value) = value < 65536
Carried (Done emptied) = emptied < 4294967296
Carried (Refused number) = ⊥

pub record ReplyRead (outcome : Outcome) (loads answer : ℕ) : Type 0 where
  pub is_read : OutcomeRead outcome loads answer
  pub not-refused : bits 63 56 answer ≡ 0

at_read : (address loads : ℕ) → address < 4294967296 → loads < 16 → ReplyRead (At address) loads (outcome_answer (At address) loads)
unfolding OutcomeRead outcome_answer
at_read address loads al dl =
    let r = access-read address 0 loads true false false al (omega arith) dl in
    record {
      is_read = record {
        address_is = r.address_is;
        loads-are = r.loads-are;
        has_address = r.located-is;
        no-fault = (r.value-is, r.exception-is);
        no-interrupt = r.interrupts-is;
        not-refused = r.not-refused;
      };
      not-refused = omega (arith, r.not-refused);
    }

carried-read : (outcome : Outcome) (loads : ℕ) → Carried outcome → loads < 16 → ReplyRead outcome loads (outcome_answer outcome loads)
unfolding Carried OutcomeRead outcome_answer outcome_fits IfFault
carried-read (At address) loads c l = at_read address loads c l
carried-read (Fault value) loads c l =
    let r = fault-read (Fault value) loads (lt-ltb value 65536 c) l in record { is_read = r; not-refused = omega (arith, r.not-refused) }
carried-read (Done emptied) loads c l = record { is_read = emptied-read emptied c; not-refused = omega arith }
carried-read (Refused number) loads c l = absurd c

access-carried : (outcome : Outcome) → AddressWithin outcome → outcome_fits outcome ≡ true → Carried outcome
unfolding AddressWithin outcome_fits Carried
access-carried (At address) w f = w
access-carried (Fault value) w f = ltb-true value 65536 f
access-carried (Done emptied) w f = absurd w
access-carried (Refused number) w f = absurd w

-- accepted or refused
module _ (n : ℕ) (x : Reply) (r : Registers) (l : n < 256) (k : ReplyRead x.outcome x.loads (reply_answer x)) where
  abbrev reply : Reply
  reply = by_refusal n x (refused r n)

  either-read : OutcomeRead reply.outcome reply.loads (reply_answer reply)
  unfolding by_refusal reply_answer outcome_answer OutcomeRead
  either-read = by-test (eqb n 0)
    where
      by-test : (t : Bool)
          → let s = cond t x (refused r n) in OutcomeRead s.outcome s.loads (reply_answer s)
      by-test true = k.is_read
      by-test false = refusal-read n l

  accepted-read : n ≡ 0 → bits 63 56 (reply_answer reply) ≡ 0
  unfolding by_refusal
  accepted-read z = rw (eq-eqb n 0 z) k.not-refused

-- ---- each call's reply

unfoldable CallRead : Bytes → HostCall → Type 0
CallRead now c =
    let reply = (event_in now c).reply in
    OutcomeRead reply.outcome reply.loads (reply_answer reply) × (host_refusal c ≡ 0 → bits 63 56 (reply_answer reply) ≡ 0)

module _ (m : Machine) (a : Access) (al : a.address < 4294967296) where
  access-reply-read : ReplyRead (access_reply m a).outcome (access_reply m a).loads (reply_answer (access_reply m a))
  unfolding reply_answer
  access-reply-read =
      let f = access-fits m a in
      carried-read (access_reply m a).outcome (access_reply m a).loads
      (access-carried (access_reply m a).outcome (access-address m a al) f.0) f.1

done-read : (r : Registers) (value : ℕ) → value < 4294967296 → ReplyRead (Done value) 0 (reply_answer (done r value))
unfolding reply_answer Carried
done-read r value l = carried-read (Done value) 0 l (omega arith)

few-emptied : (m : Machine) (p : Put) → emptied (stored_words m p) m.buffer < 4294967296
unfolding emptied
few-emptied m p = omega (arith, count-le (λ slot. not (kept_at (stored_words m p) m.buffer slot)) 64)

call-read : (now : Bytes) (c : HostCall) → Typed c → host_refusal c ≡ refusal (call_in c) → CallRead now c
unfolding CallRead Typed host_refusal call_in event_in event_of refusal served_reply store_reply setting_reply
call-read now (HostAccess given a) t same =
    let k = access-reply-read (machine_in given) a (omega (arith, t.1)) in
    let l = access-lt given.registers given.buffer given.tables a _ (sym same) in
    (either-read _ _ _ l k, λ z. accepted-read _ _ _ l k (sym same ∙ z))
call-read now (HostStore given p) t same =
    let m = machine_in given in
    let few : emptied (stored_words m p) m.buffer < 4294967296 = few-emptied m p in
    let k = done-read m.registers (emptied (stored_words m p) m.buffer) few in
    let l = store_lt given.registers given.buffer given.tables p.index _ (sym same) in
    (either-read _ _ _ l k, λ z. accepted-read _ _ _ l k (sym same ∙ z))
call-read now (HostSetting given number value) t same =
    let k = done-read _ 0 (omega arith) in
    let l = subst (λ (n : ℕ). n < 256) same (setting-lt given number value) in
    (either-read _ _ _ l k, λ z. accepted-read _ _ _ l k (sym same ∙ z))

pub answers-read : AnswersRead
unfolding CallRead
answers-read now c answer after t w g =
    let u = host-calls-are-calls now c answer after t w g in
    subst (OutcomeRead (event_in now c).reply.outcome (event_in now c).reply.loads) (sym u.answer-is)
    (call-read now c t u.refusal_is).0

-- ---- the refusal's number

refused-bits : (now : Bytes) (c : HostCall) (answer : ℕ) (after : Bytes) → host_accepts c ≡ false → HostPromise now c answer after
    → host_refusal c < 256 → bits 63 56 answer ≡ host_refusal c
refused-bits now c answer after no' g l =
    ap (bits 63 56) (refused-leave-all now c answer after no' g).answer-is ∙ (refusal-read (host_refusal c) l).number_is

host-lt : (c : HostCall) → host_refusal c < 256
unfolding host_refusal
host-lt (HostAccess given a) = access-lt given.registers given.buffer given.tables a _ refl
host-lt (HostStore given p) = store_lt given.registers given.buffer given.tables p.index _ refl
host-lt (HostSetting given number value) = setting-lt given number value

pub refusals-read : RefusalsRead
unfolding CallRead host_accepts
refusals-read now c answer after t g = by-test (host_accepts c) refl (right_lengths c) refl
  where
    by-test : (b : Bool) → host_accepts c ≡ b → (w : Bool) → right_lengths c ≡ w → bits 63 56 answer ≡ host_refusal c
    by-test false no' w e = refused-bits now c answer after no' g (host-lt c)
    by-test true ok false e = absurd (clash ok (length-not-accepted c e))
    by-test true ok true e =
        let u = host-calls-are-calls now c answer after t e g in
        let z = eqb-true (host_refusal c) 0 ok in
        ap (bits 63 56) u.answer-is ∙ (call-read now c t u.refusal_is).1 z ∙ sym z

-- ---- a start, and a raw access

start-lt : (registers buffer : List ℕ) → start_refusal registers buffer < 256
unfolding start_refusal
start-lt registers buffer =
    refusal-room (registers_long registers) 1 _ (omega arith) (refusal-room (buffer_taken buffer) 2 0 (omega arith) (omega arith))

pub starts-read : StartsRead
unfolding start_number
starts-read registers buffer answer registers-after buffer-after g =
    rw g.answer-is (refusal-read (start_refusal registers buffer) (start-lt registers buffer))

module _ (t : Translation) where
  raw_at : (address : ℕ) → t.physical ≡ Some address → address < 4294967296 → t.value < 65536
      → RawRead t (raw_answer (Some address) t.interrupt t.exception t.value)
  unfolding raw_answer LocatedRead
  raw_at address e l v =
      let r = access-read address t.value 0 true t.interrupt t.exception l v (omega arith) in
      record {
        located = rw e (r.located-is, r.address_is);
        interrupts = r.interrupts-is;
        exception-is = r.exception-is;
        value-is = r.value-is;
        no-loads = r.loads-are;
        not-refused = r.not-refused;
      }

  raw-none : t.physical ≡ None → t.value < 65536 → RawRead t (raw_answer None t.interrupt t.exception t.value)
  unfolding raw_answer LocatedRead
  raw-none e v =
      let r = access-read 0 t.value 0 false t.interrupt t.exception (omega arith) v (omega arith) in
      record {
        located = rw e (r.located-is, r.address_is);
        interrupts = r.interrupts-is;
        exception-is = r.exception-is;
        value-is = r.value-is;
        no-loads = r.loads-are;
        not-refused = r.not-refused;
      }

located-read : (t : Translation) → Within32 t.physical → t.value < 65536 → RawRead t (translation_answer t)
unfolding translation_answer Within32
located-read t w v = by-physical t.physical refl w
  where
    by-physical : (p : Option ℕ) → t.physical ≡ p → Within32 p → RawRead t (raw_answer p t.interrupt t.exception t.value)
    by-physical (Some address) e l = raw_at t address e l v
    by-physical None e l = raw-none t e v

pub raw-accesses-read : RawAccessesRead
unfolding raw_number by_refusal translation
raw-accesses-read registers buffer a answer registers-after al g = record {
  accepted = λ z. rw (g.answer-is, eq-eqb (raw_refusal registers buffer a) 0 z)
      (located-read (translate (registers_of registers) (buffer_of buffer) a)
      (translate-within (registers_of registers) (buffer_of buffer) a (omega (arith, al)))
      (value_room (registers_of registers) buffer a _ refl));
  refused = λ h. rw (g.answer-is, ne_eqb (raw_refusal registers buffer a) 0 h)
      (refusal-read (raw_refusal registers buffer a) (raw-lt registers buffer a _ refl));
}
