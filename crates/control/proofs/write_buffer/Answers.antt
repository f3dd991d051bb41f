use native.Mathlib.Omega.{arith}
use Rattle.control.proofs.NumberLaws.{select-lt}
use Rattle.control.proofs.CallLaws.{low-lt, stores, stores-none}
use Rattle.control.proofs.write_buffer.Goals as goal

pub join-e-requires : goal.join-e-requires
join-e-requires c = (omega arith, omega arith, low-lt _ _ c.if-number-eq-TLB_LO.true c.requires.2)

pub put_slot-requires : goal.put_slot-requires
put_slot-requires c = (c.requires.1, omega (arith, select-lt _ c.requires.0))

pub returns-then-number-eq-TLB_LO : goal.returns-then-number-eq-TLB_LO
returns-then-number-eq-TLB_LO c = stores _ _ _ _ _ _ c.if-number-eq-TLB_LO.true c.join-e.ensures
    c.put_slot.ensures

pub returns-else-number-eq-TLB_LO : goal.returns-else-number-eq-TLB_LO
returns-else-number-eq-TLB_LO c = stores-none _ _ _ _ c.if-number-eq-TLB_LO.false
