-- A C host's guarded setting is the unit's. Assumes nothing.
use Prim.Native.Nat.{ℕ}
use mathlib.Core.Path.{◌≡◌, refl, sym, ap, ◌∙◌}
use mathlib.Core.Bool.{Bool, true, false, cond}
use mathlib.Core.List.{List}
use native.Mathlib.Omega.{arith}
use lib.ListN.{length, set}
use lib.Dec.{eqb}
use borrow.Author.Tests.{eqb-true, leb-true}
use Rattle.wire.specs.Wire.{decoded, with_element}
use Rattle.wire.proofs.Elements.{decoded-length, decoded-with}
use Rattle.registers.specs.Fields.{from_words, put}
use Rattle.registers.specs.Refusals.{by_refusal}
use Rattle.registers.specs.Replies.{refused, done}
use Rattle.registers.proofs.Fields.{to-from}
use Rattle.registers.specs.declared.Registers.{Registers}
use Rattle.control.specs.Setting.{is_guarded, setting_refusal, setting_reply}
use Rattle.mmu_c.specs.Runs.{registers_of, registers_long, registers_taken}
use Rattle.mmu_c.specs.Answers.{refusal_answer, reply_answer}
use Rattle.mmu_c.specs.GuardedSetting.{setting_number, setting_registers, GuardedSettingGives}
use Rattle.mmu_c.specs.GuardedSetting.{setting_refusal as host_refusal}
use Rattle.mmu_c.proofs.SettingLaws.{answer-number}
use Rattle.sequence.proofs.Taking.{setting-accepted}
use Rattle.hosts.proofs.Trips.{register-room}

module _ (given : List ℕ) (number value : ℕ) (long : registers_long given ≡ true) where
  abbrev r : Registers
  r = registers_of given

  pub setting-refusal : host_refusal given number value ≡ setting_refusal r number value
  unfolding host_refusal setting_refusal registers_taken
  setting-refusal = rw long

  -- the bytes with the register's own changed hold the registers with it set
  put-bytes : setting_refusal r number value ≡ 0 → registers_of (with_element 4 given number value) ≡ put r number value
  unfolding registers_of registers_long put is_guarded
  put-bytes z =
      let t = setting-accepted r number value z in
      let l = leb-true number 5 t.is-guarded in
      let room = register-room number value (omega arith) t.value-fits in
      ap from_words (decoded-with 4 given 11 number value (omega arith) (omega (arith, eqb-true (length given) 44 long)) (omega arith))
      ∙ ap (λ (ws : List ℕ). from_words (set ws number value)) (sym (to-from (decoded 4 given 11) (decoded-length 4 given 11)))

  module _ (answer : ℕ) (after : List ℕ) (g : GuardedSettingGives given number value answer after) where
    pub setting-answer : answer ≡ reply_answer (setting_reply r number value)
    unfolding setting_number setting_reply
    setting-answer =
        g.answer-is ∙ ap refusal_answer setting-refusal ∙ sym (answer-number (setting_refusal r number value) (put r number value) r)

    pub setting-registers : registers_of after ≡ (setting_reply r number value).registers
    unfolding setting_registers setting_reply by_refusal
    setting-registers =
        ap registers_of (g.registers-are ∙ ap (λ (k : ℕ). by_refusal k (with_element 4 given number value) given) setting-refusal)
        ∙ by-test (eqb (setting_refusal r number value) 0) refl
      where
        by-test : (t : Bool) → eqb (setting_refusal r number value) 0 ≡ t
            → registers_of (cond t (with_element 4 given number value) given)
            ≡ (cond t (done (put r number value) 0) (refused r (setting_refusal r number value))).registers
        by-test true e = put-bytes (eqb-true (setting_refusal r number value) 0 e)
        by-test false e = refl
