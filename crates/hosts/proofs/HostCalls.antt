-- A C host's calls are the unit's calls on the machine that its bytes hold. Assumes nothing.
use Prim.Native.Nat.{ℕ, ◌≤◌}
use mathlib.Core.Path.{◌≡◌, refl, ap, ◌∙◌}
use mathlib.Core.Bool.{false}
use native.Mathlib.Omega.{arith}
use borrow.Author.Tests.{ne_eqb}
use Rattle.runs.proofs.Bools.{clash}
use Rattle.registers.specs.Refusals.{refuse_unless, machine_refusal, by_refusal}
use Rattle.table_bytes.specs.TableBytes.{words_of}
use Rattle.mmu_c.specs.Runs.{registers_of, buffer_of, registers_taken, buffer_taken, tables_taken, machine_of}
use Rattle.mmu_c.specs.ServedAccess.{served_refusal, served_number, served_registers, served_bytes}
use Rattle.mmu_c.specs.TableStore.{store_refusal, store_number, store_bytes, store_tables}
use Rattle.mmu_c.specs.GuardedSetting.{setting_refusal, setting_number, setting_registers}
use Rattle.sequence.specs.Calls.{refusal, left_by}
use Rattle.sequence.specs.Asks.{event_of}
use Rattle.sequence.proofs.Refusing.{machine-same}
use Rattle.hosts.specs.Bytes.{Bytes, machine_in}
use Rattle.hosts.specs.HostCalls.{HostCall, host_refusal, host_accepts, long_right, right_lengths, Typed, handed_bytes, HostPromise}
use Rattle.hosts.specs.HostCalls.{call_in, event_in, HostCallsAreCalls, RefusedLeaveAll, WrongLengthsRefused}
use Rattle.hosts.specs.HostCalls.HostCall.{HostAccess, HostStore, HostSetting}
use Rattle.hosts.proofs.Handed.{long, refused-within, taken-long}
use Rattle.hosts.proofs.Accesses.{access-refusal, access-answer, access-registers, access-buffer}
use Rattle.hosts.proofs.Stores.{store-refusal, store-answer, store-registers, store-buffer, store_words}
use Rattle.hosts.proofs.Settings.{setting-refusal, setting-answer, setting-registers}

pub host-calls-are-calls : HostCallsAreCalls
unfolding Typed right_lengths HostPromise host_refusal call_in event_in event_of left_by refusal machine_in machine_of
host-calls-are-calls now (HostAccess given a) answer after t r g =
    let l = long given r in
    record {
      refusal_is = access-refusal given a l;
      answer-is = access-answer given a l t.0 answer after.registers after.buffer g.0;
      machine-is = machine-same _ _
          (access-registers given a l t.0 answer after.registers after.buffer g.0)
          (access-buffer given a l t.0 answer after.registers after.buffer g.0)
          (ap words_of g.1);
    }
host-calls-are-calls now (HostStore given p) answer after t r g =
    let l = long given r in
    record {
      refusal_is = store-refusal given p l;
      answer-is = store-answer given p l answer after.buffer after.tables g.0;
      machine-is = machine-same _ _
          (ap registers_of g.1 ∙ store-registers given p l)
          (store-buffer given p l answer after.buffer after.tables g.0 t.0)
          (store_words given p l answer after.buffer after.tables g.0 t.1);
    }
host-calls-are-calls now (HostSetting given number value) answer after t r g = record {
  refusal_is = setting-refusal given number value r;
  answer-is = setting-answer given number value r answer after.registers g.0;
  machine-is = machine-same _ _
      (setting-registers given number value r answer after.registers g.0)
      (ap buffer_of g.1)
      (ap words_of g.2);
}

-- ---- refused calls

bytes_same : (x y : Bytes) → x.registers ≡ y.registers → x.buffer ≡ y.buffer → x.tables ≡ y.tables → x ≡ y
bytes_same x y p q r = λ j. record { registers = p j; buffer = q j; tables = r j }

pub refused-leave-all : RefusedLeaveAll
unfolding host_accepts host_refusal HostPromise handed_bytes served_number served_registers served_bytes store_number store_bytes store_tables
    setting_number setting_registers by_refusal
refused-leave-all now (HostAccess given a) answer after no' g = record {
  answer-is = g.0.answer-is ∙ rw no';
  bytes-are = bytes_same _ _ (g.0.registers-are ∙ rw no') (g.0.buffer-is ∙ rw no') g.1;
}
refused-leave-all now (HostStore given p) answer after no' g = record {
  answer-is = g.0.answer-is ∙ rw no';
  bytes-are = bytes_same _ _ g.1 (g.0.buffer-is ∙ rw no') (g.0.tables-are ∙ rw no');
}
refused-leave-all now (HostSetting given number value) answer after no' g = record {
  answer-is = g.0.answer-is;
  bytes-are = bytes_same _ _ (g.0.registers-are ∙ rw no') g.1 g.2;
}

-- a wrong length is refused, by one of the first three tests
module _ (h : Bytes) (later : ℕ) where
  length-refused : long_right h ≡ false
      → let n = machine_refusal (registers_taken h.registers) (buffer_taken h.buffer) (tables_taken h.tables) later in
      (1 ≤ n) × (n ≤ 3)
  unfolding long_right
  length-refused e =
      refused-within (registers_taken h.registers) 1 _ 3 (omega arith) (omega arith) (λ r.
      refused-within (buffer_taken h.buffer) 2 _ 3 (omega arith) (omega arith) (λ b.
      refused-within (tables_taken h.tables) 3 later 3 (omega arith) (omega arith) (λ t.
      absurd (clash (rw (taken-long h.registers r, b, t) refl) e))))

pub wrong-lengths-refused : WrongLengthsRefused
unfolding right_lengths host_refusal served_refusal store_refusal setting_refusal registers_taken refuse_unless
wrong-lengths-refused (HostAccess given a) e = length-refused given _ e
wrong-lengths-refused (HostStore given p) e = length-refused given _ e
wrong-lengths-refused (HostSetting given number value) e = rw e (omega arith, omega arith)

-- so it is not accepted
pub length-not-accepted : (c : HostCall) → right_lengths c ≡ false → host_accepts c ≡ false
unfolding host_accepts
length-not-accepted c e = ne_eqb (host_refusal c) 0 (λ z. omega (arith, (wrong-lengths-refused c e).0))
