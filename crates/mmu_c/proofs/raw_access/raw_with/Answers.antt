use Rattle.std.proofs.Common.{rules, ◌≡◌}
use mathlib.Core.Path.{refl}
use Rattle.registers.specs.Numbers.{number_of}
use Rattle.registers.proofs.RefusalLaws.{refused-ne0}
use Rattle.mmu_c.specs.Answers.{answer_of, refusal_answer}
use native.Mathlib.Omega.{arith}
use Rattle.mmu_c.proofs.RawLaws.{refusal-short, refusal-long, lengths, accepted, refused, tried, plain-tried, value_room}
use Rattle.mmu_c.proofs.raw_access.raw_with.Goals as goal

pub returns-then-not-long : goal.returns-then-not-long
returns-then-not-long c = refused _ _ _ _ (refusal-short _ _ _ c.if-not-long.true) _ (λ e. omega arith) refl

pub returns-in_err-raw_refusal : goal.returns-in_err-raw_refusal
returns-in_err-raw_refusal c = let same : answer_of c.from_residual.result ≡ refusal_answer (number_of c.in_err-raw_refusal.field-0.0) = search rules in
    let q = refusal-long _ _ _ _ _ c.if-not-long.false c.registers_of-r.ensures.registers c.in_err-raw_refusal.ensures in
    refused _ _ _ _ q _ (refused-ne0 _) same

pub first_try-t-requires : goal.first_try-t-requires
first_try-t-requires c = let q = refusal-long _ _ _ _ _ c.if-not-long.false c.registers_of-r.ensures.registers c.in_ok-raw_refusal.ensures in (
  accepted _ _ _ _ q refl _ c.registers_of-r.ensures.registers,
  (lengths _ _ _ _ q refl).1,
  c.requires,
)

pub translation_answer-requires : goal.translation_answer-requires
translation_answer-requires c = value_room _ _ _ _ c.first_try-t.ensures.answer

pub returns-then-not-t : goal.returns-then-not-t
returns-then-not-t c = let q = refusal-long _ _ _ _ _ c.if-not-long.false c.registers_of-r.ensures.registers c.in_ok-raw_refusal.ensures in
    plain-tried _ _ _ _ q _ _ refl c.registers_of-r.ensures.registers c.first_try-t.ensures.answer _
    c.registers_of-r.ensures.bytes c.if-not-t.true c.translation_answer.ensures

pub put_registers-requires : goal.put_registers-requires
put_registers-requires c = c.if-not-long.false

pub translation_answer-requires-2 : goal.translation_answer-requires-2
translation_answer-requires-2 c = value_room _ _ _ _
    c.first_try-t.ensures.answer

pub returns : goal.returns
returns c = let q = refusal-long _ _ _ _ _ c.if-not-long.false c.registers_of-r.ensures.registers c.in_ok-raw_refusal.ensures in
    tried _ _ _ _ q _ _ refl c.registers_of-r.ensures.registers c.first_try-t.ensures.answer _ _
    c.put_registers.ensures c.translation_answer-2.ensures
