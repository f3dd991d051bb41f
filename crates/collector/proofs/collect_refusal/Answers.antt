use Rattle.std.proofs.Common.{rules, ◌≡◌}
use mathlib.Core.Path.{refl, sym, ◌∙◌}
use native.Mathlib.Omega.{arith}
use borrow.Author.Tests.{not-false, leb-true}
use Rattle.registers.specs.Numbers.{refusal_number, number_of}
use Rattle.registers.proofs.RefusalLaws.{refuse-here, refuse-later, machine-passed, machine-refused, machine-later, refused-ne0}
use Rattle.heap.specs.Pools.{pool_fits}
use Rattle.heap.proofs.CallLaws.{unfit, fit}
use Rattle.collector.specs.Collect.{collect_refusal}
use Rattle.collector.proofs.collect_refusal.Goals as goal

pub returns-then-not-frames_fit : goal.returns-then-not-frames_fit
unfolding collect_refusal
returns-then-not-frames_fit c = unfit _ _ c.frames_fit.ensures _ c.if-not-frames_fit.true-raw

pub returns-in_err-machine_refusal : goal.returns-in_err-machine_refusal
unfolding collect_refusal
returns-in_err-machine_refusal c =
    let same : refusal_number c.from_residual.result ≡ number_of c.in_err-machine_refusal.field-0.0 = search rules in
    same ∙ fit _ _ c.frames_fit.ensures _ _ c.if-not-frames_fit.false-raw
    (machine-refused _ _ _ _ _ _ c.registers_fit.ensures c.buffer_fits.ensures c.tables_fit.ensures _ c.in_err-machine_refusal.ensures _
    (refused-ne0 _))

pub returns-then-not-known : goal.returns-then-not-known
unfolding collect_refusal
returns-then-not-known c = fit _ _ c.frames_fit.ensures _ _ c.if-not-frames_fit.false-raw
    (machine-later _ _ _ _ _ _ c.registers_fit.ensures c.buffer_fits.ensures c.tables_fit.ensures _ c.in_ok-machine_refusal.ensures _ _
    refl (refuse-here _ _ _ _ refl c.if-not-known.true-raw))

pub may_collect-requires : goal.may_collect-requires
unfolding pool_fits
may_collect-requires c =
    let machine = machine-passed _ _ _ _ (sym c.in_ok-machine_refusal.ensures) in
    let known = leb-true c.args.id 62 (not-false _ c.if-not-known.false-raw) in (
      sym c.tables_fit.ensures ∙ machine.2,
      omega arith,
      sym c.frames_fit.ensures ∙ not-false _ c.if-not-frames_fit.false-raw,
    )

pub returns-then-not-may_collect : goal.returns-then-not-may_collect
unfolding collect_refusal
returns-then-not-may_collect c = fit _ _ c.frames_fit.ensures _ _ c.if-not-frames_fit.false-raw
    (machine-later _ _ _ _ _ _ c.registers_fit.ensures c.buffer_fits.ensures c.tables_fit.ensures _ c.in_ok-machine_refusal.ensures _ _
    refl (refuse-later _ _ _ _ refl _ c.if-not-known.false-raw (refuse-here _ _ _ _ c.may_collect.ensures c.if-not-may_collect.true-raw)))

pub returns : goal.returns
unfolding collect_refusal
returns c = fit _ _ c.frames_fit.ensures _ _ c.if-not-frames_fit.false-raw
    (machine-later _ _ _ _ _ _ c.registers_fit.ensures c.buffer_fits.ensures c.tables_fit.ensures _ c.in_ok-machine_refusal.ensures _ _
    refl (refuse-later _ _ _ _ refl _ c.if-not-known.false-raw
    (refuse-later _ _ _ _ c.may_collect.ensures _ c.if-not-may_collect.false-raw refl)))
