use mathlib.Core.Path.{refl, sym}
use Rattle.registers.proofs.RefusalLaws.{refused-ne0}
use native.Mathlib.Omega.{arith}
use Rattle.heap.specs.Pools.{lowest_free}
use Rattle.heap.proofs.PoolLaws.{frames-now}
use Rattle.heap.proofs.MapLaws.{map-refused, map-unfit, map-no-store, map-full, may-map}
use Rattle.heap.proofs.maps.map.Goals as goal

pub returns-then-not-frames_fit : goal.returns-then-not-frames_fit
returns-then-not-frames_fit c = let refusal = map-unfit _ _ _ _ c.frames_fit.ensures c.if-not-frames_fit.true-raw in
    map-refused _ _ _ _ 1 _ refusal (λ z. omega arith) c.refused_map.ensures

pub returns-in-Err : goal.returns-in-Err
returns-in-Err c = let test = c.frames_fit.ensures in
    let tested = c.if-not-frames_fit.false-raw in
    let refusal = map-no-store _ _ _ _ test tested _ c.in-Err.ensures (refused-ne0 _) in
    map-refused _ _ _ _ _ _ refusal (refused-ne0 _) c.refused_map-in-Err.ensures

pub lowest_free-requires : goal.lowest_free-requires
lowest_free-requires c = let test = c.frames_fit.ensures in
    (frames-now _ _ _ test c.if-not-frames_fit.false-raw).at_most

pub returns-in_default-lowest_free : goal.returns-in_default-lowest_free
unfolding lowest_free
returns-in_default-lowest_free c = let test = c.frames_fit.ensures in
    let tested = c.if-not-frames_fit.false-raw in
    let store = c.in_default.ensures in
    let accepted = refl in
    let refusal = map-full _ _ _ _ test tested _ store accepted _ (sym c.in_default-lowest_free.ensures) refl in
    map-refused _ _ _ _ 10 _ refusal (λ z. omega arith) c.refused_map-in_default-lowest_free.ensures

pub map_frame-requires : goal.map_frame-requires
unfolding lowest_free
map_frame-requires c = let test = c.frames_fit.ensures in
    let tested = c.if-not-frames_fit.false-raw in
    let store = c.in_default.ensures in
    let accepted = refl in
    may-map _ _ _ _ test tested _ store accepted _ c.in-Some.ensures.0 (λ e. omega (arith, e, c.in-Some.ensures.1))
