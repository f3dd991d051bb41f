-- What a raw access that is not refused was handed, and the ways through it. Assumes nothing.
use Prim.Native.Nat.{ℕ, ◌≤◌, ◌<◌}
use mathlib.Core.Path.{◌≡◌, refl, sym, ap, ◌∙◌, subst}
use mathlib.Core.Bool.{not, true}
use mathlib.Core.List.{List}
use native.Mathlib.Omega.{arith}
use lib.ListN.{length}
use borrow.Author.Tests.{not-true}
use Rattle.wire.specs.Wire.{AreBytes}
use Rattle.registers.specs.Fields.{registers_fit}
use Rattle.registers.specs.Refusals.{refuse_unless, draw_fits}
use Rattle.registers.proofs.RefusalLaws.{passed, when-accepted, when-refused}
use Rattle.registers.specs.declared.Access.{Access}
use Rattle.registers.specs.declared.Registers.{Registers}
use Rattle.access.specs.Translation.{Accepted, translate}
use Rattle.access.specs.declared.Translation.{Translation}
use Rattle.access.proofs.Plain.{plain, plain-registers}
use Rattle.access.proofs.Values.{translate-value-le}
use Rattle.mmu_c.specs.Runs.{registers_of, register_bytes, buffer_of, registers_taken, buffer_taken}
use Rattle.mmu_c.specs.Answers.{refusal_answer, translation_answer}
use Rattle.mmu_c.specs.RawAccess.{raw_refusal, translation, raw_number, raw_registers, RawAccessGives}
use Rattle.mmu_c.proofs.AnswerLaws.{refusal-room}
use Rattle.mmu_c.proofs.RunLaws.{short-refusal, long-refusal, registers-told, registers-back, buffer-told}
use Rattle.mmu_c.proofs.Locations.{buffer-fits}

-- the refusal by the registers' length and by what the code tests then
module _ (registers buffer : List ℕ) (a : Access) where
  pub refusal-short : (length registers ≡ 44 → ⊥) → 1 ≡ raw_refusal registers buffer a
  unfolding raw_refusal
  refusal-short h = short-refusal registers _ h

  pub refusal-long : (r : Registers) (n : ℕ) → length registers ≡ 44 → r ≡ registers_of registers
      → n ≡ refuse_unless (registers_fit r) 1 (refuse_unless (buffer_taken buffer) 2 (refuse_unless (draw_fits a.draw) 4 0))
      → n ≡ raw_refusal registers buffer a
  unfolding raw_refusal
  refusal-long r n e rq q = q ∙ long-refusal registers r _ e rq

module _ (registers buffer : List ℕ) (a : Access) (n : ℕ) (nq : n ≡ raw_refusal registers buffer a) where
  pub refusal-lt : n < 256
  unfolding raw_refusal
  refusal-lt = subst (λ (k : ℕ). k < 256) (sym nq) (refusal-room (registers_taken registers) 1 _ (omega arith)
      (refusal-room (buffer_taken buffer) 2 _ (omega arith) (refusal-room (draw_fits a.draw) 4 0 (omega arith) (omega arith))))

  -- an access that is not refused
  module _ (z : n ≡ 0) where
    pub lengths : (length registers ≡ 44) × (length buffer ≡ 512)
    unfolding raw_refusal
    lengths =
        let one = passed (registers_taken registers) 1 _ (λ e. omega arith) (sym nq ∙ z) in
        let two = passed (buffer_taken buffer) 2 _ (λ e. omega arith) one.1 in
        ((registers-told registers one.0).0, buffer-told buffer two.0)

    pub accepted : (r : Registers) → r ≡ registers_of registers → Accepted r (buffer_of buffer) a
    unfolding raw_refusal
    accepted r rq =
        let one = passed (registers_taken registers) 1 _ (λ e. omega arith) (sym nq ∙ z) in
        let two = passed (buffer_taken buffer) 2 _ (λ e. omega arith) one.1 in
        let four = passed (draw_fits a.draw) 4 _ (λ e. omega arith) two.1 in
        record {
          registers-fit = ap registers_fit rq ∙ (registers-told registers one.0).1;
          buffer-fits = buffer-fits buffer;
          draw-fits = four.0;
        }

  pub refused : (answer : ℕ) → (n ≡ 0 → ⊥) → answer ≡ refusal_answer n → RawAccessGives registers buffer a answer registers
  unfolding raw_number raw_registers
  refused answer h q = record {
    answer-is = when-refused _ n nq _ _ _ h (q ∙ ap refusal_answer nq);
    registers-are = when-refused _ n nq _ _ _ h refl;
  }

  -- the access is tried
  module _ (r : Registers) (t : Translation) (z : n ≡ 0) (rq : r ≡ registers_of registers) (tq : t ≡ translate r (buffer_of buffer) a) where
    translation-is : t ≡ translation registers buffer a
    unfolding translation
    translation-is = tq ∙ ap (λ (s : Registers). translate s (buffer_of buffer) a) rq

    pub tried : (answer : ℕ) (after : List ℕ) → after ≡ register_bytes t.registers → answer ≡ translation_answer t
        → RawAccessGives registers buffer a answer after
    unfolding raw_number raw_registers
    tried answer after p q = record {
      answer-is = when-accepted _ n nq _ _ _ z (q ∙ ap translation_answer translation-is);
      registers-are = when-accepted _ n nq _ _ _ z (p ∙ ap (λ (s : Translation). register_bytes s.registers) translation-is);
    }

    -- without an exception the registers' bytes are left alone
    pub plain-tried : (answer : ℕ) → AreBytes registers → not t.exception ≡ true → answer ≡ translation_answer t
        → RawAccessGives registers buffer a answer registers
    plain-tried answer are h q =
        tried answer registers
        (sym (registers-back registers are (lengths z).0)
        ∙ ap register_bytes (sym rq ∙ sym (plain-registers r t (plain r (buffer_of buffer) a t tq (not-true t.exception h)))))
        q

-- a try's value has room in its bits
pub value_room : (r : Registers) (buffer : List ℕ) (a : Access) (t : Translation) → t ≡ translate r (buffer_of buffer) a → t.value < 65536
value_room r buffer a t q =
    let l : t.value ≤ 8 = subst (λ (s : Translation). s.value ≤ 8) (sym q) (translate-value-le r (buffer_of buffer) a) in
    omega arith
