use mathlib.Core.Path.{sym, ◌∙◌}
use native.Mathlib.Omega.{arith}
use Rattle.mmu_c.proofs.Locations.{slot-inside}
use Rattle.mmu_c.proofs.PutBack.{put-none, put-more, put_all}
use Rattle.mmu_c.proofs.served_access.put_back.Goals as goal

pub loop-set-init : goal.loop-set-init
loop-set-init c = put-none _ _ _ c.requires.1

pub offset_bounds-slots-slot : goal.offset_bounds-slots-slot
offset_bounds-slots-slot c = let l = slot-inside _ _ _ c.slot_of-slot.ensures (omega arith) in omega arith

pub bounds-slots-slot : goal.bounds-slots-slot
bounds-slots-slot c = let l = slot-inside _ _ _ c.slot_of-slot.ensures
    (omega arith) in omega (arith, c.requires.0)

pub write-requires : goal.write-requires
write-requires c = let l = slot-inside _ _ _ c.slot_of-slot.ensures
    (omega arith) in omega (arith, c.loop-set.invariant.long)

pub loop-set-preserved : goal.loop-set-preserved
loop-set-preserved c = put-more _ _ _ _ _ _ _ c.loop-set.invariant
    (omega arith) c.slot_of-slot.ensures
    c.write.ensures

pub shape_of-buffer : goal.shape_of-buffer
shape_of-buffer c = c.loop-set.invariant.long ∙ sym c.requires.1

pub returns : goal.returns
returns c = put_all _ _ _ _ _ c.loop-set.invariant (omega arith)
