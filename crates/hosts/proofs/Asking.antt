-- Any list of requests of a host, each put to the bytes of its moment, with any refused calls between them, is such a run. Assumes nothing.
use Prim.Native.Nat.{ℕ, zero, suc, ◌/◌, ◌%◌, ◌<◌}
use mathlib.Core.Path.{◌≡◌, refl, sym, subst}
use mathlib.Core.Bool.{Bool, true, false, cond}
use mathlib.Core.List.{List, [], ◌∷◌, ◌++◌}
use native.Mathlib.Omega.{arith}
use lib.Dec.{eqb}
use Rattle.runs.proofs.Bools.{clash}
use Rattle.wire.specs.Wire.{bytes_of, encoded, AreBytes}
use Rattle.registers.specs.Refusals.{by_refusal}
use Rattle.registers.specs.declared.Access.{Access}
use Rattle.slots.specs.Buffer.{Buffer}
use Rattle.slots.specs.Buffer.Buffer.{Wide}
use Rattle.store.specs.Rewrite.{Put}
use Rattle.mmu_c.specs.Runs.{buffer_bytes}
use Rattle.mmu_c.specs.ServedAccess.{served_bytes}
use Rattle.mmu_c.specs.TableStore.{store_bytes}
use Rattle.sequence.specs.Requests.Request.{ToAccess, ToStore, ToSet}
use Rattle.hosts.specs.Bytes.{Bytes}
use Rattle.hosts.specs.HostCalls.{HostCall, host_accepts, Typed, handed_bytes, HostPromise}
use Rattle.hosts.specs.HostCalls.HostCall.{HostAccess, HostStore, HostSetting}
use Rattle.hosts.specs.Hosts.{HostEvent, bytes_after, HostHanded, HostThroughout}
use Rattle.hosts.specs.Asking.{call_with, event_with, raw_event_with, run_of, Askable, EveryListRuns}
use Rattle.hosts.specs.Asking.HostAsk.{Now, Stray, StrayRaw}

-- ---- what is encoded is bytes

append-bytes : (xs ys : List ℕ) → AreBytes xs → AreBytes ys → AreBytes (xs ++ ys)
append-bytes [] ys h k i l = k i l
append-bytes (x ∷ xs) ys h k zero l = h zero (omega arith)
append-bytes (x ∷ xs) ys h k (suc i) l = append-bytes xs ys (λ j m. h (suc j) (omega arith)) k i (omega arith)

one_byte : (x : ℕ) → x < 256 → AreBytes (x ∷ [])
one_byte x b zero l = b
one_byte x b (suc i) l = absurd (omega arith)

number-bytes : (w x : ℕ) → AreBytes (bytes_of w x)
unfolding bytes_of
number-bytes zero x i l = absurd (omega arith)
number-bytes (suc w) x i l = append-bytes (bytes_of w (x / 256)) (x % 256 ∷ []) (number-bytes w (x / 256)) (one_byte (x % 256) (omega arith)) i l

encoded-bytes : (w : ℕ) (xs : List ℕ) → AreBytes (encoded w xs)
unfolding encoded
encoded-bytes w [] i l = absurd (omega arith)
encoded-bytes w (x ∷ xs) i l = append-bytes (bytes_of w x) _ (number-bytes w x) (encoded-bytes w xs) i l

buffer-bytes : (b : Buffer) → AreBytes (buffer_bytes b)
unfolding buffer_bytes
buffer-bytes (Wide numbers) = encoded-bytes 8 numbers

either-bytes : (n : ℕ) (xs ys : List ℕ) → AreBytes xs → AreBytes ys → AreBytes (by_refusal n xs ys)
unfolding by_refusal
either-bytes n xs ys h k = by-test (eqb n 0)
  where
    by-test : (t : Bool) → AreBytes (cond t xs ys)
    by-test true = h
    by-test false = k

-- ---- one call

event-call : (now : Bytes) (c : HostCall) → (event_with now c).call ≡ c
unfolding event_with
event-call now (HostAccess given a) = refl
event-call now (HostStore given p) = refl
event-call now (HostSetting given number value) = refl

event-promised : (now : Bytes) (c : HostCall) → HostPromise now c (event_with now c).answer (event_with now c).after
unfolding HostPromise event_with
event-promised now (HostAccess given a) = (record { answer-is = refl; registers-are = refl; buffer-is = refl }, refl)
event-promised now (HostStore given p) = (record { answer-is = refl; buffer-is = refl; tables-are = refl }, refl)
event-promised now (HostSetting given number value) = (record { answer-is = refl; registers-are = refl }, refl, refl)

handed-one : (now : Bytes) (c : HostCall) → Typed c → (host_accepts c ≡ true → handed_bytes now c ≡ now) → HostHanded now (event_with now c)
handed-one now c t h = record {
  same_bytes = subst (λ (x : HostCall). host_accepts x ≡ true → handed_bytes now x ≡ now) (sym (event-call now c)) h;
  promised =
      subst (λ (x : HostCall). HostPromise now x (event_with now c).answer (event_with now c).after) (sym (event-call now c))
      (event-promised now c);
  typed = subst Typed (sym (event-call now c)) t;
}

-- the bytes of the next moment are bytes
kept-bytes : (now : Bytes) (e : HostEvent) → AreBytes now.buffer → AreBytes e.after.buffer → AreBytes (bytes_after now e).buffer
unfolding bytes_after
kept-bytes now e h k = by-test (host_accepts e.call)
  where
    by-test : (t : Bool) → AreBytes (cond t e.after now).buffer
    by-test true = k
    by-test false = h

refused-bytes : (now : Bytes) (c : HostCall) → AreBytes now.buffer → host_accepts c ≡ false
    → AreBytes (bytes_after now (event_with now c)).buffer
unfolding bytes_after
refused-bytes now c h no' = rw (event-call now c, no') h

access-bytes : (now : Bytes) (a : Access) → AreBytes now.buffer
    → AreBytes (served_bytes now.registers now.buffer now.tables a)
unfolding served_bytes
access-bytes now a h = either-bytes _ _ _ (buffer-bytes _) h

store_bytes_lem : (now : Bytes) (p : Put) → AreBytes now.buffer → AreBytes (store_bytes now.registers now.buffer now.tables p)
unfolding store_bytes
store_bytes_lem now p h = either-bytes _ _ _ (buffer-bytes _) h

-- ---- the list

pub every-list-runs : EveryListRuns
unfolding HostThroughout run_of Askable call_with event_with raw_event_with Typed handed_bytes
every-list-runs now h [] t = tt
every-list-runs now h (Now (ToAccess a) ∷ qs) t = (
  handed-one now (HostAccess now a) (h, omega (arith, t.0)) (λ _. refl),
  every-list-runs (bytes_after now (event_with now (HostAccess now a))) (kept-bytes now (event_with now (HostAccess now a)) h (access-bytes now a h)) qs t.1,
)
every-list-runs now h (Now (ToStore p) ∷ qs) t = (
  handed-one now (HostStore now p) (h, omega (arith, t.0)) (λ _. refl),
  every-list-runs (bytes_after now (event_with now (HostStore now p))) (kept-bytes now (event_with now (HostStore now p)) h (store_bytes_lem now p h)) qs t.1,
)
every-list-runs now h (Now (ToSet number value) ∷ qs) t = (
  handed-one now (HostSetting now.registers number value) tt (λ _. refl),
  every-list-runs (bytes_after now (event_with now (HostSetting now.registers number value)))
      (kept-bytes now (event_with now (HostSetting now.registers number value)) h h) qs t,
)
every-list-runs now h (Stray c ∷ qs) t = (
  handed-one now c t.0 (λ ok. absurd (clash ok t.1)),
  every-list-runs (bytes_after now (event_with now c)) (refused-bytes now c h t.1) qs t.2,
)
every-list-runs now h (StrayRaw registers buffer a ∷ qs) t = (
  record { is-refused = t.0; promised = record { answer-is = refl; registers-are = refl } },
  every-list-runs now h qs t.1,
)
