use Rattle.std.proofs.Common.{◌≡◌, ◌∙◌, arith}
use Rattle.entry.proofs.Fields.{slot_lt}
use Rattle.tlb.specs.Search.{hit_count, hit_set}
use Rattle.tlb.proofs.Found.{found_none, found_hit, found_miss}
use Rattle.tlb.proofs.HitLaws.{set_told}
use Rattle.tlb.proofs.search.Goals as goal
use Rattle.tlb.proofs.search.Goals.{then-hit, else-hit}

pub loop-set-init : goal.loop-set-init
loop-set-init c = found_none _

pub slot_at-e-requires : goal.slot_at-e-requires
slot_at-e-requires c = (c.requires, rw c.slot_of-slot.ensures (slot_lt _ _ (omega arith)))

pub overflow_add-count : goal.overflow_add-count
overflow_add-count c = omega (arith, c.loop-set.invariant.at_most)

pub loop-set-preserved : goal.loop-set-preserved
loop-set-preserved c =
    let told = set_told _ _ _ _ _ _ _ _ c.slot_of-slot.ensures c.slot_at-e.ensures c.hit.ensures in
    elim c.if-hit.branch [
      | then-hit w ↦ rw (w.count-is, w.lowest-is, w.or-lowest.ensures) (found_hit _ _ _ _ c.loop-set.invariant (told ∙ w.if-hit.true))
      | else-hit w ↦ rw (w.count-is, w.lowest-is) (found_miss _ _ _ _ c.loop-set.invariant (told ∙ w.if-hit.false))
    ]

pub returns : goal.returns
unfolding hit_count hit_set
returns c =
    let four : c.loop-set.set ≡ 4 = omega (arith, c.loop-set.auto.set-end, c.loop-set-test.false) in
    record {
      none = c.loop-set.invariant.none;
      found = λ otherwise. record {
        count-is = rw (← four) c.loop-set.invariant.counted;
        set_is = rw (← four) (c.loop-set.invariant.least otherwise);
      };
    }
