use native.Mathlib.Omega.{arith}
use Rattle.control.proofs.HalvesLaws.{parts-lt, hi-is}
use Rattle.control.proofs.hi_at_select.Goals as goal

pub overflow_mul-result : goal.overflow_mul-result
overflow_mul-result c = omega (arith, parts-lt _ _ _ c.vpn15_of-vpn15.ensures c.page_id_of-page_id.ensures)

pub overflow_add-result : goal.overflow_add-result
overflow_add-result c = omega (arith, parts-lt _ _ _ c.vpn15_of-vpn15.ensures c.page_id_of-page_id.ensures)

pub overflow_mul-result-2 : goal.overflow_mul-result-2
overflow_mul-result-2 c = omega (arith, parts-lt _ _ _ c.vpn15_of-vpn15.ensures c.page_id_of-page_id.ensures)

pub overflow_add-result-2 : goal.overflow_add-result-2
overflow_add-result-2 c = omega (arith, parts-lt _ _ _ c.vpn15_of-vpn15.ensures c.page_id_of-page_id.ensures)

pub returns : goal.returns
returns c = hi-is _ _ _ c.vpn15_of-vpn15.ensures c.page_id_of-page_id.ensures _
