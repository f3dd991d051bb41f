use Rattle.std.proofs.Common.{rules, ◌≡◌}
use Rattle.registers.specs.Numbers.{number_of}
use Rattle.registers.proofs.RefusalLaws.{refused-ne0}
use Rattle.mmu_c.specs.Answers.{answer_of, refusal_answer}
use mathlib.Core.Path.{refl, ap, ◌∙◌}
use native.Mathlib.Omega.{arith}
use Rattle.wire.specs.Wire.{decoded}
use Rattle.mmu_c.proofs.Locations.{run_fits}
use Rattle.mmu_c.proofs.StoreLaws.{refused, lengths, stored}
use Rattle.mmu_c.proofs.table_store.store_with.Goals as goal

pub returns-in_err-store_refusal : goal.returns-in_err-store_refusal
returns-in_err-store_refusal c = let same : answer_of c.from_residual.result ≡ refusal_answer (number_of c.in_err-store_refusal.field-0.0) = search rules in
    refused _ _ _ _ _ c.in_err-store_refusal.ensures _ (refused-ne0 _) same

pub decode-requires : goal.decode-requires
decode-requires c = omega (
  arith,
  (lengths _ _ _ _ _ c.in_ok-store_refusal.ensures
      refl).0,
  c.requires,
)

pub rewrite-emptied-requires : goal.rewrite-emptied-requires
rewrite-emptied-requires c = let n = lengths _ _ _ _ _ c.in_ok-store_refusal.ensures refl in (
  run_fits _ (c.decode.auto.numbers
      ∙ c.requires),
  n.1,
  n.2,
)

pub encode-requires : goal.encode-requires
encode-requires c = let n = lengths _ _ _ _ _ c.in_ok-store_refusal.ensures
    refl in omega (
      arith,
      n.0,
      c.rewrite-emptied.auto.buffer ∙ c.decode.auto.numbers
          ∙ c.requires,
    )

pub returns : goal.returns
returns c = stored _ _ _ _ _ c.in_ok-store_refusal.ensures _ _ _ _ _ refl
    (c.decode.ensures ∙ ap (decoded 8 _)
    c.requires) c.rewrite-emptied.ensures
    c.encode.ensures
