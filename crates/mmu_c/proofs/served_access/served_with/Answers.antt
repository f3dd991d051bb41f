use Rattle.std.proofs.Common.{rules, ◌≡◌}
use mathlib.Core.Path.{refl}
use Rattle.registers.specs.Numbers.{number_of}
use Rattle.registers.proofs.RefusalLaws.{refused-ne0}
use Rattle.mmu_c.specs.Answers.{answer_of, refusal_answer}
use native.Mathlib.Omega.{arith}
use Rattle.mmu_c.proofs.RawLaws.{value_room}
use Rattle.mmu_c.proofs.ServedLaws.{refusal-short, refusal-long, refused, lengths, accepted, reply-fits, served}
use Rattle.mmu_c.proofs.ServedLaws.{plain-served}
use Rattle.mmu_c.proofs.served_access.served_with.Goals as goal

pub returns-then-not-long : goal.returns-then-not-long
returns-then-not-long c = refused _ _ _ _ _ (refusal-short _ _ _ _ c.if-not-long.true) _ (λ e. omega arith) refl

pub returns-in_err-served_refusal : goal.returns-in_err-served_refusal
returns-in_err-served_refusal c = let same : answer_of c.from_residual.result ≡ refusal_answer (number_of c.in_err-served_refusal.field-0.0) = search rules in
    let q = refusal-long _ _ _ _ _ _ c.if-not-long.false c.registers_of-r.ensures.registers
    c.in_err-served_refusal.ensures in
    refused _ _ _ _ _ q _ (refused-ne0 _) same

pub first_try-first-requires : goal.first_try-first-requires
first_try-first-requires c = let q = refusal-long _ _ _ _ _ _ c.if-not-long.false c.registers_of-r.ensures.registers
    c.in_ok-served_refusal.ensures in (
      accepted _ _ _ _ _ q refl _ c.registers_of-r.ensures.registers,
      (lengths _ _ _ _ _ q refl).1,
      c.requires,
    )

pub translation_answer-requires : goal.translation_answer-requires
translation_answer-requires c = value_room _ _ _ _ c.first_try-first.ensures.answer

pub returns-then-not-first : goal.returns-then-not-first
returns-then-not-first c = let q = refusal-long _ _ _ _ _ _ c.if-not-long.false c.registers_of-r.ensures.registers
    c.in_ok-served_refusal.ensures in
    plain-served _ _ _ _ _ q refl _ _ _ c.registers_of-r.ensures.registers
    c.first_try-first.ensures.answer
    c.first_try-first.ensures.slots c.registers_of-r.ensures.bytes c.if-not-first.true _ c.translation_answer.ensures

pub serve-reply-requires : goal.serve-reply-requires
serve-reply-requires c = let q = refusal-long _ _ _ _ _ _ c.if-not-long.false c.registers_of-r.ensures.registers
    c.in_ok-served_refusal.ensures in
    let l = lengths _ _ _ _ _ q refl in (
      accepted _ _ _ _ _ q refl _ c.registers_of-r.ensures.registers,
      l.1,
      l.2,
      c.first_try-first.ensures.answer,
      c.first_try-first.ensures.slots,
    )

pub put_registers-requires : goal.put_registers-requires
put_registers-requires c = c.if-not-long.false

pub reply_answer-requires : goal.reply_answer-requires
reply_answer-requires c = reply-fits _ _ _ _ c.serve-reply.ensures

pub returns : goal.returns
returns c = let q = refusal-long _ _ _ _ _ _ c.if-not-long.false c.registers_of-r.ensures.registers
    c.in_ok-served_refusal.ensures in
    served _ _ _ _ _ q refl _ _ _
    c.registers_of-r.ensures.registers c.serve-reply.ensures _ _
    c.put_registers.ensures c.reply_answer.ensures
