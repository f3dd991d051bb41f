-- Bytes of right lengths, and what they hold where a call was accepted or refused. Assumes nothing.
use Prim.Native.Nat.{ℕ, ◌≤◌}
use mathlib.Core.Path.{◌≡◌, refl}
use mathlib.Core.Bool.{Bool, true, false, cond, ◌&&◌}
use mathlib.Core.List.{List}
use lib.Dec.{eqb}
use borrow.Author.Tests.{eqb-true}
use Rattle.runs.proofs.Bools.{both}
use Rattle.wire.specs.Wire.{AreBytes}
use Rattle.registers.specs.Fields.{registers_fit}
use Rattle.registers.specs.Refusals.{refuse_unless, by_refusal}
use Rattle.registers.specs.Replies.{refused}
use Rattle.registers.specs.declared.Registers.{Registers}
use Rattle.registers.specs.declared.Reply.{Reply}
use Rattle.slots.specs.Buffer.{Buffer, buffer_fits}
use Rattle.mmu_c.specs.Runs.{registers_of, register_bytes, buffer_of, buffer_bytes, registers_long, registers_taken, buffer_taken, tables_taken}
use Rattle.mmu_c.specs.Runs.{machine_of}
use Rattle.mmu_c.specs.Answers.{refusal_answer, outcome_answer, reply_answer}
use Rattle.mmu_c.proofs.Locations.{buffer-fits}
use Rattle.mmu_c.proofs.RunLaws.{buffer-told}
use Rattle.hosts.specs.Bytes.{Bytes, machine_in}
use Rattle.hosts.specs.HostCalls.{long_right}
use Rattle.hosts.proofs.Trips.{registers-trip, BufferWithin, decoded-within, buffer-trip}

pub record Long (h : Bytes) : Type 0 where
  pub registers-long : registers_long h.registers ≡ true
  pub buffer-long : buffer_taken h.buffer ≡ true
  pub tables-long : tables_taken h.tables ≡ true

pub long : (h : Bytes) → long_right h ≡ true → Long h
unfolding long_right
long h r =
    let one = both (registers_long h.registers && buffer_taken h.buffer) (tables_taken h.tables) r in
    let two = both (registers_long h.registers) (buffer_taken h.buffer) one.0 in
    record { registers-long = two.0; buffer-long = two.1; tables-long = one.1 }

pub within : (h : Bytes) → Long h → AreBytes h.buffer → BufferWithin (machine_in h).buffer
unfolding machine_in machine_of
within h r are = decoded-within h.buffer are (buffer-told h.buffer r.buffer-long)

pub fits : (h : Bytes) → buffer_fits (machine_in h).buffer ≡ true
unfolding machine_in machine_of
fits h = buffer-fits h.buffer

-- accepted or refused, the answer is that of the reply
pub answer-of : (n : ℕ) (x : Reply) (r : Registers)
    → by_refusal n (reply_answer x) (refusal_answer n) ≡ reply_answer (by_refusal n x (refused r n))
unfolding by_refusal reply_answer outcome_answer
answer-of n x r = by-test (eqb n 0)
  where
    by-test : (t : Bool) → cond t (reply_answer x) (refusal_answer n) ≡ reply_answer (cond t x (refused r n))
    by-test true = refl
    by-test false = refl

-- the registers' bytes hold the reply's registers
pub registers-of : (n : ℕ) (x : Reply) (bytes : List ℕ) → (n ≡ 0 → registers_fit x.registers ≡ true)
    → registers_of (by_refusal n (register_bytes x.registers) bytes) ≡ (by_refusal n x (refused (registers_of bytes) n)).registers
unfolding by_refusal
registers-of n x bytes h = by-test (eqb n 0) refl
  where
    by-test : (t : Bool) → eqb n 0 ≡ t
        → registers_of (cond t (register_bytes x.registers) bytes) ≡ (cond t x (refused (registers_of bytes) n)).registers
    by-test true e = registers-trip x.registers (h (eqb-true n 0 e))
    by-test false e = refl

-- and the buffer's bytes the buffer
pub buffer-of : (n : ℕ) (b : Buffer) (bytes : List ℕ) → buffer_fits b ≡ true → BufferWithin b
    → buffer_of (by_refusal n (buffer_bytes b) bytes) ≡ by_refusal n b (buffer_of bytes)
unfolding by_refusal
buffer-of n b bytes h k = by-test (eqb n 0)
  where
    by-test : (t : Bool) → buffer_of (cond t (buffer_bytes b) bytes) ≡ cond t b (buffer_of bytes)
    by-test true = buffer-trip b h k
    by-test false = refl

-- a refusal's number lies between 1 and a bound, where the later one does whenever the test holds
pub refused-within : (test : Bool) (number later most : ℕ) → 1 ≤ number → number ≤ most → (test ≡ true → (1 ≤ later) × (later ≤ most))
    → (1 ≤ refuse_unless test number later) × (refuse_unless test number later ≤ most)
unfolding refuse_unless
refused-within true number later most low high h = h refl
refused-within false number later most low high h = (low, high)

-- registers that are taken are long enough
pub taken-long : (bytes : List ℕ) → registers_taken bytes ≡ true → registers_long bytes ≡ true
unfolding registers_taken
taken-long bytes h = (both (registers_long bytes) (registers_fit (registers_of bytes)) h).0
