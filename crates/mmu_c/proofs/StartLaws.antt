-- The ways through a start. Assumes nothing.
use Prim.Native.Nat.{ℕ, zero, suc, ◌%◌, ◌^◌, ◌≤◌}
use mathlib.Core.Path.{◌≡◌, refl, sym, ap, ◌∙◌}
use mathlib.Core.List.{List, [], ◌∷◌, ◌++◌, append_assoc}
use native.Mathlib.Omega.{arith}
use lib.ListN.{length, set, drop, length-append}
use lib.Seq.{set_at, drop-cons, drop-length}
use borrow.Author.Tests.{eq-eqb, ne_eqb}
use Rattle.wire.specs.Wire.{encoded, decoded}
use Rattle.wire.proofs.Elements.{decoded-length}
use Rattle.registers.specs.Fields.{zero_registers}
use Rattle.registers.specs.Refusals.{refuse_unless, by_refusal}
use Rattle.registers.proofs.RefusalLaws.{when-accepted, when-refused}
use Rattle.registers.specs.declared.Reply.{Reply}
use Rattle.entry.specs.Address.{set_of}
use Rattle.entry.specs.Empty.{empty_entry}
use Rattle.slots.specs.Buffer.{Buffer, with_slot}
use Rattle.slots.specs.Buffer.Buffer.{Wide}
use Rattle.slots.specs.Start.{empty_first, start_buffer}
use Rattle.control.specs.Starting.{start_reply, started_buffer}
use Rattle.control.specs.Starting.{start_refusal as unit_refusal}
use Rattle.control.specs.Starting.{StartGives as UnitStartGives}
use Rattle.mmu_c.specs.Runs.{registers_long, register_bytes, buffer_of, buffer_bytes, buffer_taken}
use Rattle.mmu_c.specs.Answers.{refusal_answer}
use Rattle.mmu_c.specs.Start.{start_refusal, start_number, start_registers, start_bytes, StartGives}
use Rattle.mmu_c.proofs.Locations.{run_fits}

-- ---- the run that a start leaves, whatever it was lent

-- the first n numbers of an empty buffer
unfoldable empty_run : (n : ℕ) → List ℕ
empty_run zero = []
empty_run (suc n) = empty_run n ++ (empty_entry (set_of n) % 2 ^ 44 ∷ [])

run_length : (n : ℕ) → length (empty_run n) ≡ n
unfolding empty_run
run_length zero = refl
run_length (suc n) = length-append (empty_run n) _ ∙ rw (run_length n) (omega arith)

first_run : (n : ℕ) (run : List ℕ) → n ≤ length run → empty_first n (Wide run) ≡ Wide (empty_run n ++ drop n run)
unfolding empty_first empty_run with_slot
first_run zero run l = refl
first_run (suc n) run l =
    ap (λ (b : Buffer). with_slot b n (empty_entry (set_of n))) (first_run n run (omega arith))
    ∙ ap (λ (r : List ℕ). Wide (set (empty_run n ++ r) n (empty_entry (set_of n) % 2 ^ 44))) (drop-cons run n 0 (omega arith))
    ∙ ap Wide (set_at (empty_run n) _ (drop (suc n) run) (empty_entry (set_of n) % 2 ^ 44) n (run_length n))
    ∙ ap Wide (sym (append_assoc (empty_run n) (empty_entry (set_of n) % 2 ^ 44 ∷ []) (drop (suc n) run)))

start-run : (run : List ℕ) → length run ≡ 64 → start_buffer (Wide run) ≡ Wide (empty_run 64 ++ [])
unfolding start_buffer
start-run run e =
    first_run 64 run (omega arith) ∙ ap (λ (r : List ℕ). Wide (empty_run 64 ++ r)) (ap (λ (n : ℕ). drop n run) (sym e) ∙ drop-length run)

-- so of any two runs
pub start-any : (run other : List ℕ) → length run ≡ 64 → length other ≡ 64 → start_buffer (Wide run) ≡ start_buffer (Wide other)
start-any run other e f = start-run run e ∙ sym (start-run other f)

-- ---- the call over words, handed a run that fits

pub record UnitStarted (run run-after : List ℕ) (reply : Reply) : Type 0 where
  pub registers-are : reply.registers ≡ zero_registers
  pub buffer-is : Wide run-after ≡ start_buffer (Wide run)

unit-started : (run run-after : List ℕ) (reply : Reply) → length run ≡ 64 → UnitStartGives (Wide run) (Wide run-after) reply
    → UnitStarted run run-after reply
unfolding start_reply started_buffer unit_refusal refuse_unless by_refusal
unit-started run run-after reply e g = record {
  registers-are = ap (λ (s : Reply). s.registers) g.reply-is ∙ rw (run_fits run e);
  buffer-is = g.buffer-is ∙ rw (run_fits run e);
}

-- ---- the ways through the call

module _ (registers buffer : List ℕ) where
  pub short : (length registers ≡ 44 → ⊥) → 1 ≡ start_refusal registers buffer
  unfolding start_refusal registers_long refuse_unless
  short h = sym (rw (ne_eqb (length registers) 44 h))

  pub long : (n : ℕ) → length registers ≡ 44 → n ≡ refuse_unless (buffer_taken buffer) 2 0 → n ≡ start_refusal registers buffer
  unfolding start_refusal registers_long refuse_unless
  long n h q = q ∙ sym (rw (eq-eqb (length registers) 44 h))

  pub refused : (n answer : ℕ) → n ≡ start_refusal registers buffer → (n ≡ 0 → ⊥) → answer ≡ refusal_answer n
      → StartGives registers buffer answer registers buffer
  unfolding start_number start_registers start_bytes
  refused n answer nq h q = record {
    answer-is = q ∙ ap refusal_answer nq;
    registers-are = when-refused _ n nq _ _ _ h refl;
    buffer-is = when-refused _ n nq _ _ _ h refl;
  }

  pub started : (run run-after registers-after buffer-after : List ℕ) (reply : Reply) → 0 ≡ start_refusal registers buffer
      → length run ≡ 64 → UnitStartGives (Wide run) (Wide run-after) reply
      → registers-after ≡ register_bytes reply.registers → buffer-after ≡ encoded 8 run-after
      → StartGives registers buffer 0 registers-after buffer-after
  unfolding start_number start_registers start_bytes buffer_of buffer_bytes refusal_answer
  started run run-after registers-after buffer-after reply nq e g rq bq =
      let s = unit-started run run-after reply e g in
      record {
        answer-is = ap refusal_answer nq;
        registers-are = when-accepted _ 0 nq _ _ _ refl (rq ∙ ap register_bytes s.registers-are);
        buffer-is =
            when-accepted _ 0 nq _ _ _ refl
            (bq ∙ ap buffer_bytes (s.buffer-is ∙ start-any run (decoded 8 buffer 64) e (decoded-length 8 buffer 64)));
      }
