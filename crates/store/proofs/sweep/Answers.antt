-- `store::sweep` meets its contract: the loop's invariant is `Sweeping`. Assumes nothing.
use native.Mathlib.Omega.{arith}
use mathlib.Core.Path.{refl}
use Rattle.store.proofs.KeptLaws.{entry_lt, sweep-begin, sweep-fits, sweep-turn, number-le, goes-le, same-run, sweep-end}
use Rattle.store.proofs.sweep.Goals as goal

pub loop-slot-init : goal.loop-slot-init
loop-slot-init g c = sweep-begin _ _

pub slot_at-e-requires : goal.slot_at-e-requires
slot_at-e-requires g c = let so_far = c.loop-slot.invariant in
    (sweep-fits _ _ _ _ _ so_far c.requires.0, omega arith)

pub kept-keep-requires : goal.kept-keep-requires
kept-keep-requires g c = (c.requires.1, omega arith, entry_lt _ _ _ c.slot_at-e.ensures)

pub settle-emptied-requires : goal.settle-emptied-requires
settle-emptied-requires g c = let so_far = c.loop-slot.invariant in
    (sweep-fits _ _ _ _ _ so_far c.requires.0, omega arith)

pub overflow_add-emptied : goal.overflow_add-emptied
overflow_add-emptied g c = let so_far = number-le _ _ _ _ _ c.loop-slot.invariant in
    let more = goes-le _ _ c.settle-emptied.ensures.number in
    omega (arith, c.settle-emptied.ensures.number)

pub loop-slot-preserved : goal.loop-slot-preserved
loop-slot-preserved g c = let so_far = c.loop-slot.invariant in
    let entry = c.slot_at-e.ensures in
    let test = c.kept-keep.ensures in
    let settled = c.settle-emptied.ensures in
    sweep-turn _ _ _ _ _ so_far _ _ (omega arith) entry test _ _ settled.buffer settled.number

pub shape_of-buffer : goal.shape_of-buffer
shape_of-buffer g c = same-run _ _ _ _ _ c.loop-slot.invariant _ _ refl refl c.requires.0

pub returns : goal.returns
returns g c = sweep-end _ _ _ _ _ c.loop-slot.invariant (omega arith)
