-- The ways through a guarded setting. Assumes nothing.
use Prim.Native.Nat.{ℕ, ◌+◌, ◌*◌, ◌^◌, ◌≤◌, ◌<◌}
use mathlib.Core.Path.{◌≡◌, refl, sym, ap, ◌∙◌}
use mathlib.Core.Bool.{Bool, true, false, cond}
use mathlib.Core.List.{List}
use native.Mathlib.Omega.{arith}
use lib.ListN.{length}
use lib.Dec.{eqb}
use borrow.Author.Tests.{eqb-true, lt-ltb}
use Rattle.wire.specs.Wire.{with_element}
use Rattle.registers.specs.Fields.{put, fits_at}
use Rattle.registers.specs.Refusals.{by_refusal}
use Rattle.registers.specs.Replies.{refused, done}
use Rattle.registers.proofs.RefusalLaws.{when-accepted, when-refused}
use Rattle.registers.specs.declared.Registers.{Registers}
use Rattle.registers.specs.declared.Reply.{Reply}
use Rattle.control.specs.Setting.{is_guarded, switch_fits, argument_refusal, setting_reply}
use Rattle.control.proofs.CallLaws.{setting-accepted}
use Rattle.control.specs.Setting.{setting_refusal as unit_refusal}
use Rattle.control.specs.Setting.{GuardedSettingGives as UnitSettingGives}
use Rattle.mmu_c.specs.Runs.{registers_of, registers_taken}
use Rattle.mmu_c.specs.Answers.{refusal_answer, outcome_answer, reply_answer, outcome_fits}
use Rattle.mmu_c.specs.GuardedSetting.{setting_refusal, setting_number, setting_registers, GuardedSettingGives}
use Rattle.mmu_c.proofs.AnswerLaws.{refusal-room}
use Rattle.mmu_c.proofs.RunLaws.{short-refusal, long-refusal}

-- ---- the answer of a setting's reply, by its refusal's number

module _ (n : ℕ) (after r : Registers) where
  abbrev setting-reply : Reply
  setting-reply = by_refusal n (done after 0) (refused r n)

  pub answer-number : reply_answer setting-reply ≡ refusal_answer n
  unfolding by_refusal reply_answer outcome_answer refusal_answer
  answer-number = by-test (eqb n 0) refl
    where
      by-test : (b : Bool) → eqb n 0 ≡ b → reply_answer (cond b (done after 0) (refused r n)) ≡ n * 2 ^ 56
      by-test true e = sym (rw (eqb-true n 0 e) refl)
      by-test false e = refl

  reply-room : n < 256 → (outcome_fits setting-reply.outcome ≡ true) × (setting-reply.loads < 16)
  unfolding by_refusal outcome_fits
  reply-room l = by-test (eqb n 0)
    where
      by-test : (b : Bool) → let s = cond b (done after 0) (refused r n) in (outcome_fits s.outcome ≡ true) × (s.loads < 16)
      by-test true = (refl, omega arith)
      by-test false = (lt-ltb n 256 l, omega arith)

-- ---- the ways through the call

argument-lt : (number value : ℕ) → argument_refusal number value < 256
unfolding argument_refusal
argument-lt number value = refusal-room (switch_fits number value) 5 _ (omega arith)
    (refusal-room (is_guarded number) 7 _ (omega arith)
    (refusal-room (fits_at number value) 7 0 (omega arith) (omega arith)))

module _ (registers : List ℕ) (number value : ℕ) where
  pub refusal-lt : setting_refusal registers number value < 256
  unfolding setting_refusal
  refusal-lt = refusal-room (registers_taken registers) 1 _ (omega arith) (argument-lt _ _)

  -- the registers are not 44 bytes
  pub short : (answer : ℕ) → (length registers ≡ 44 → ⊥) → answer ≡ refusal_answer 1
      → GuardedSettingGives registers number value answer registers
  unfolding setting_number setting_registers setting_refusal
  short answer h q =
      let nq = short-refusal registers _ h in
      record { answer-is = q ∙ ap refusal_answer nq; registers-are = when-refused _ 1 nq _ _ _ (λ e. omega arith) refl }

  module _ (r : Registers) (reply : Reply) (e : length registers ≡ 44) (rq : r ≡ registers_of registers)
      (g : UnitSettingGives r number value reply) where
    same-refusal : unit_refusal r number value ≡ setting_refusal registers number value
    unfolding unit_refusal setting_refusal
    same-refusal = long-refusal registers r (argument_refusal number value) e rq

    reply-is : reply ≡ setting-reply (setting_refusal registers number value) (put r number value) r
    unfolding setting_reply
    reply-is = g.reply-is ∙ ap (λ (n : ℕ). by_refusal n (done (put r number value) 0) (refused r n)) same-refusal

    pub room : (outcome_fits reply.outcome ≡ true) × (reply.loads < 16)
    room = rw reply-is (reply-room (setting_refusal registers number value) (put r number value) r refusal-lt)

    module _ (answer : ℕ) (q : answer ≡ reply_answer reply) where
      answer-is : answer ≡ refusal_answer (setting_refusal registers number value)
      answer-is = q ∙ ap reply_answer reply-is ∙ answer-number (setting_refusal registers number value) (put r number value) r

      pub refused-setting : (answer ≡ 0 → ⊥) → GuardedSettingGives registers number value answer registers
      unfolding setting_number setting_registers refusal_answer
      refused-setting h = record {
        answer-is = answer-is;
        registers-are = when-refused _ _ refl _ _ _ (λ z. h (answer-is ∙ rw z refl)) refl;
      }

      module _ (z : answer ≡ 0) where
        accepted : setting_refusal registers number value ≡ 0
        unfolding refusal_answer
        accepted = omega (arith, sym answer-is ∙ z)

        -- the register's bytes are there
        pub place : 4 * number + 4 ≤ length registers
        place = omega (arith, setting-accepted r number value (same-refusal ∙ accepted))

        pub set : (registers-after : List ℕ) → registers-after ≡ with_element 4 registers number value
            → GuardedSettingGives registers number value answer registers-after
        unfolding setting_number setting_registers
        set registers-after bq =
            record { answer-is = answer-is; registers-are = when-accepted _ _ refl _ _ _ accepted bq }
