use mathlib.Core.Path.{ap₂, ◌∙◌}
use native.Mathlib.Omega.{arith}
use mathlib.Core.Logic.{◌≢◌}
use Rattle.heap.specs.Pools.{lowest_free, done_pool}
use Rattle.heap.specs.Take.{take_refusal}
use Rattle.heap.proofs.PoolLaws.{frames-now}
use Rattle.heap.proofs.CallLaws.{fits-now, unfit, fit, full-refusal, no-full-refusal}
use Rattle.heap.proofs.CallLaws.{place-room, pfn-is, pool-after, take-refused, take_done}
use Rattle.heap.proofs.calls.take.Goals as goal

pub returns-then-not-frames_fit : goal.returns-then-not-frames_fit
unfolding take_refusal
returns-then-not-frames_fit c = let refusal = unfit _ _ c.frames_fit.ensures _ c.if-not-frames_fit.true-raw in
    take-refused _ _ 1 refusal (λ z. omega arith) c.refused_pool.ensures

pub lowest_free-requires : goal.lowest_free-requires
lowest_free-requires c = let fits = frames-now _ _ _ c.frames_fit.ensures c.if-not-frames_fit.false-raw in
    fits.at_most

pub returns-in_default : goal.returns-in_default
unfolding take_refusal lowest_free
returns-in_default c = let full = full-refusal _ c.in_default.ensures in
    let tested = c.if-not-frames_fit.false-raw in
    let refusal = fit _ _ c.frames_fit.ensures 10 _ tested full in
    take-refused _ _ 10 refusal (λ z. omega arith) c.refused_pool-in_default.ensures

pub flip-requires : goal.flip-requires
unfolding lowest_free
flip-requires c = let test = c.frames_fit.ensures in
    let tested = c.if-not-frames_fit.false-raw in
    omega (arith, place-room _ (fits-now _ _ test tested) _ c.in-Some.ensures.0 (λ e. omega (arith, e, c.in-Some.ensures.1)))

pub overflow_add-pfn : goal.overflow_add-pfn
unfolding lowest_free
overflow_add-pfn c = let test = c.frames_fit.ensures in
    let tested = c.if-not-frames_fit.false-raw in
    let free : c.in-Some.place ≢ c.args.pool.size = λ e. omega (arith, e, c.in-Some.ensures.1) in
    omega (arith, place-room _ (fits-now _ _ test tested) _ c.in-Some.ensures.0 free)

pub returns : goal.returns
unfolding take_refusal lowest_free
returns c = let test = c.frames_fit.ensures in
    let tested = c.if-not-frames_fit.false-raw in
    let fits = fits-now _ _ test tested in
    let place = c.in-Some.ensures.0 in
    let free : c.in-Some.place ≢ c.args.pool.size = λ e. omega (arith, e, c.in-Some.ensures.1) in
    take_done _ _ (fit _ _ test 0 _ tested (no-full-refusal _ (λ e. free (place ∙ e))))
    (ap₂ done_pool (pfn-is _ fits _ place free) (pool-after _ fits _ place free _ c.flip.ensures))
