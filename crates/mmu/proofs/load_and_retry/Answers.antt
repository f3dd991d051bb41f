use Rattle.access.proofs.AccessLaws.{context-lt, draw-lt}
use Rattle.mmu.proofs.ServedLaws.{page-lt, loaded-accepted, leaf-loaded}
use Rattle.mmu.proofs.load_and_retry.Goals as goal

pub leaf_entry-e-requires : goal.leaf_entry-e-requires
leaf_entry-e-requires c = (context-lt _ c.requires.registers-fit, page-lt _ _ c.vpn_of-vpn.ensures)

pub load-slot-requires : goal.load-slot-requires
load-slot-requires c = (c.requires.buffer-fits, draw-lt _ c.requires.draw-fits)

pub translate-second-requires : goal.translate-second-requires
translate-second-requires c = loaded-accepted _ _ _ _ _ _ _ _ c.load-slot.ensures c.put-selected.ensures c.requires

pub returns : goal.returns
returns c = let page = c.vpn_of-vpn.ensures in
    let entry = c.leaf_entry-e.ensures in
    let second = c.translate-second.ensures in
    leaf-loaded _ _ _ _ _ _ _ _ c.load-slot.ensures c.put-selected.ensures _ _ _ page entry second c.tried_reply.ensures
