use Rattle.std.proofs.Common.{refl, arith}
use Rattle.std.proofs.lemmas.List.{length-append, length-take, length-drop, get_or-take, get_or-drop}
use Rattle.std.proofs.lemmas.Slice.Zip.{zip_turn, zip_end}
use Rattle.reach.proofs.PresentLaws.{counted_none, turn_more, turn-skip, turn_fits, turn-end}
use Rattle.reach.proofs.leaf_count.Goals as goal

pub loop-link-init : goal.loop-link-init
loop-link-init c = counted_none _

pub overflow_add-leaves : goal.overflow_add-leaves
overflow_add-leaves c =
    let at = zip_turn _ c.args.presents.now _ _ _ c.next.new.self _ refl (cc) c.loop-link.yielded_by _ c.in-Some.is c.next.ensures.steps in
    omega (arith, turn_fits _ _ _ c.requires.0 c.requires.1 _ _ _ c.loop-link.invariant at.1 (at.3 0))

pub loop-link-preserved-then-link-ne0 : goal.loop-link-preserved-then-link-ne0
loop-link-preserved-then-link-ne0 c =
    let at = zip_turn _ c.args.presents.now _ _ _ c.next.new.self _ refl (cc) c.loop-link.yielded_by _ c.in-Some.is c.next.ensures.steps in
    simp length-append (turn_more _ _ _ c.requires.0 c.requires.1 _ _ _ c.loop-link.invariant
    (grind (arith, length-take, length-drop, at.0)) (at.3 0) _
    (grind (arith, length-take, length-drop, get_or-take, get_or-drop, at.0, at.2 0)) c.if-link-ne0.true)

pub loop-link-preserved : goal.loop-link-preserved
loop-link-preserved c =
    let at = zip_turn _ c.args.presents.now _ _ _ c.next.new.self _ refl (cc) c.loop-link.yielded_by _ c.in-Some.is c.next.ensures.steps in
    simp length-append (turn-skip _ _ _ c.requires.0 c.requires.1 _ _ c.loop-link.invariant
    (grind (arith, length-take, length-drop, at.0)) _
    (grind (arith, length-take, length-drop, get_or-take, get_or-drop, at.0, at.2 0)) c.if-link-ne0.false)

pub returns : goal.returns
returns c =
    let end = zip_end _ c.args.presents.now _ _ _ c.next.new.self _ refl (cc) c.loop-link.yielded_by c.in-None.is c.next.ensures.steps in
    turn-end _ _ _ c.requires.0 c.requires.1 _ _ c.loop-link.invariant (grind (arith, length-take, length-drop, end))
