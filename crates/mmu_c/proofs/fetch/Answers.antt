use mathlib.Core.Path.{◌∙◌, sym}
use native.Mathlib.Omega.{arith}
use Rattle.mmu_c.proofs.Locations.{slot-inside, fetch-none, fetch-more, fetch-all}
use Rattle.mmu_c.proofs.fetch.Goals as goal

pub loop-set-init : goal.loop-set-init
loop-set-init c = fetch-none _ _ _ c.requires.1

pub read-requires : goal.read-requires
read-requires c = let l = slot-inside _ _ _ c.slot_of-slot.ensures (omega arith) in omega
    (arith, c.requires.0)

pub offset_bounds-slots-slot : goal.offset_bounds-slots-slot
offset_bounds-slots-slot c = let l = slot-inside _ _ _ c.slot_of-slot.ensures (omega arith) in omega arith

pub bounds-slots-slot : goal.bounds-slots-slot
bounds-slots-slot c = let l = slot-inside _ _ _ c.slot_of-slot.ensures (omega arith) in omega
    (arith, c.loop-set.invariant.long)

pub loop-set-preserved : goal.loop-set-preserved
loop-set-preserved c = fetch-more _ _ _ _ _ _ c.loop-set.invariant (omega arith)
    c.slot_of-slot.ensures c.read.ensures.number c.read.ensures.bytes

pub shape_of-slots : goal.shape_of-slots
shape_of-slots c = c.loop-set.invariant.long ∙ sym c.requires.1

pub returns : goal.returns
returns c = fetch-all _ _ _ _ c.loop-set.invariant (omega arith)
