use native.Mathlib.Omega.{arith}
use Rattle.store.proofs.StoreLaws.{store-accepted}
use Rattle.heap.proofs.MapLaws.{may-store, may-room, map-done}
use Rattle.heap.proofs.maps.map_frame.Goals as goal

pub overflow_add-pfn : goal.overflow_add-pfn
overflow_add-pfn c = let may = c.requires in
    omega (arith, may-room _ _ _ _ may)

pub mapped_word-requires : goal.mapped_word-requires
mapped_word-requires c = let may = c.requires in
    omega (arith, may-room _ _ _ _ may)

pub rewrite-emptied-requires : goal.rewrite-emptied-requires
rewrite-emptied-requires c = let accepted = store-accepted _ _ (may-store _ _ _ _ c.requires) in
    (accepted.0, accepted.1, omega (arith, accepted.1, accepted.2))

pub flip-requires : goal.flip-requires
flip-requires c = let may = c.requires in
    omega (arith, may-room _ _ _ _ may)

pub returns : goal.returns
returns c = let may = c.requires in
    let word = c.mapped_word.ensures in
    let stored = c.rewrite-emptied.ensures in
    map-done _ _ _ _ _ may _ _ _ _ _ _ word stored c.done-reply.ensures c.flip.ensures
