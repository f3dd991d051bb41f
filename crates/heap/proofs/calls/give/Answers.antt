use mathlib.Core.Path.{refl, sym, ap, ◌∙◌}
use native.Mathlib.Omega.{arith}
use borrow.Author.Tests.{not-false}
use Rattle.registers.proofs.RefusalLaws.{refuse-here, refuse-later}
use Rattle.heap.specs.Pools.{done_pool}
use Rattle.heap.specs.Give.{give_refusal}
use Rattle.heap.proofs.PoolLaws.{frames-now}
use Rattle.heap.proofs.CallLaws.{unfit, fit, held-pfn, pool-back, give-refused, give-done}
use Rattle.heap.proofs.calls.give.Goals as goal

pub returns-then-not-frames_fit : goal.returns-then-not-frames_fit
unfolding give_refusal
returns-then-not-frames_fit c = let refusal = unfit _ _ c.frames_fit.ensures _ c.if-not-frames_fit.true-raw in
    give-refused _ _ _ 1 refusal (λ z. omega arith) c.refused_pool.ensures

pub holds-requires : goal.holds-requires
holds-requires c = (frames-now _ _ _ c.frames_fit.ensures c.if-not-frames_fit.false-raw).at_most

pub returns-then-not-holds : goal.returns-then-not-holds
unfolding give_refusal
returns-then-not-holds c = let missing = refuse-here _ _ _ _ c.holds.ensures c.if-not-holds.true-raw in
    let tested = c.if-not-frames_fit.false-raw in
    let refusal = fit _ _ c.frames_fit.ensures 11 _ tested missing in
    give-refused _ _ _ 11 refusal (λ z. omega arith) c.refused_pool-then-not-holds.ensures

pub overflow_sub-place : goal.overflow_sub-place
overflow_sub-place c = (held-pfn _ _ (sym c.holds.ensures ∙ not-false _ c.if-not-holds.false-raw)).from_first

pub flip-requires : goal.flip-requires
flip-requires c = let tested = c.if-not-frames_fit.false-raw in
    let fits = frames-now _ _ _ c.frames_fit.ensures tested in
    let held = held-pfn _ _ (sym c.holds.ensures ∙ not-false _ c.if-not-holds.false-raw) in
    omega (arith, fits.at_most, held.inside)

pub returns : goal.returns
unfolding give_refusal
returns c = let held = c.holds.ensures in
    let found = c.if-not-holds.false-raw in
    let tested = c.if-not-frames_fit.false-raw in
    let later = refuse-later _ _ _ _ held 0 found refl in
    let refusal = fit _ _ c.frames_fit.ensures 0 _ tested later in
    give-done _ _ _ refusal (ap (done_pool 0) (pool-back _ _ (sym held ∙ not-false _ found) _ c.flip.ensures))
