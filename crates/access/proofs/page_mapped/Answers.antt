use Rattle.std.proofs.Common.{◌≡◌, None, arith}
use Rattle.entry.proofs.Fields.{slot_lt, unpack-fits}
use Rattle.tlb.proofs.HitLaws.{searched-lt}
use Rattle.access.proofs.AccessLaws.{context-lt, draw-lt, mapped-miss, mapped-hit, mapped-many}
use Rattle.access.proofs.Keeping.{selected-lt}
use Rattle.access.proofs.page_mapped.Goals as goal

pub slot_of-drawn-requires : goal.slot_of-drawn-requires
slot_of-drawn-requires c = draw-lt _ c.requires.draw-fits

pub exception_answer-requires : goal.exception_answer-requires
exception_answer-requires c = (context-lt _ c.requires.registers-fit, omega arith)

pub slot_of-slot-requires : goal.slot_of-slot-requires
slot_of-slot-requires c =
    searched-lt (rw c.in-Some.is at c.search-count.ensures.found c.args.a.draw) (draw-lt _ c.requires.draw-fits)

pub slot_at-e-requires : goal.slot_at-e-requires
slot_at-e-requires c =
    let found = searched-lt (rw c.in-Some.is at c.search-count.ensures.found c.args.a.draw) (draw-lt _ c.requires.draw-fits) in
    let inside = slot_lt c.in-Some.set c.vpn_of-vpn.result found in
    (c.requires.buffer-fits, omega (arith, c.slot_of-slot.ensures, inside, selected-lt _ c.requires.registers-fit))

pub on_hit-requires : goal.on_hit-requires
on_hit-requires c = (context-lt _ c.requires.registers-fit, rw c.unpack-f.ensures (unpack-fits _).pfn-fits)

pub exception_answer-requires-in-Some-2 : goal.exception_answer-requires-in-Some-2
exception_answer-requires-in-Some-2 c = (context-lt _ c.requires.registers-fit, omega arith)

pub returns-in-None : goal.returns-in-None
returns-in-None c = mapped-miss _ _ _ _ _ _ _ _ c.inv_exc.ensures c.vpn_of-vpn.ensures
    (c.search-count.ensures.found c.args.a.draw) _ (c.search-count.ensures.none.0 c.in-None.is)
    c.slot_of-drawn.ensures c.exception_answer.ensures

pub returns-in-Some : goal.returns-in-Some
returns-in-Some c = mapped-hit _ _ _ _ _ _ _ _ c.inv_exc.ensures c.vpn_of-vpn.ensures
    (rw c.in-Some.is at c.search-count.ensures.found c.args.a.draw) _ _ _ c.if-count-eq1.true
    c.slot_of-slot.ensures c.slot_at-e.ensures c.unpack-f.ensures c.on_hit.ensures

pub returns-in-Some-2 : goal.returns-in-Some-2
returns-in-Some-2 c = mapped-many _ _ _ _ _ _ _ _ c.inv_exc.ensures c.vpn_of-vpn.ensures
    (c.search-count.ensures.found c.args.a.draw)
    (λ z. let none : c.search-count.result.lowest ≡ None = c.search-count.ensures.none.1 z in cc)
    c.if-count-eq1.false c.exception_answer-in-Some-2.ensures
