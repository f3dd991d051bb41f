-- `store::claim_of` meets its contract: each way is one of the three claims. Assumes nothing.
use native.Mathlib.Omega.{arith}
use Rattle.store.proofs.KeptLaws.{page-lt, claims-nothing, claims-void, claims-page}
use Rattle.store.proofs.claim_of.Goals as goal

pub returns-then-e-empty_entry : goal.returns-then-e-empty_entry
returns-then-e-empty_entry c = claims-nothing _ _ _ c.requires.0 c.requires.1 c.empty_entry.ensures c.if-e-empty_entry.true

pub returns-then-id-gt62 : goal.returns-then-id-gt62
returns-then-id-gt62 c = let empty = c.empty_entry.ensures in
    let first = c.if-e-empty_entry.false in
    claims-void _ _ _ c.requires.0 c.requires.1 empty first _ c.page_id_of-id.ensures (omega (arith, c.if-id-gt62.true))

pub overflow_mul-vpn : goal.overflow_mul-vpn
overflow_mul-vpn c = omega (arith, page-lt _ c.args.slot _ c.vpn15_of.ensures)

pub overflow_add-vpn : goal.overflow_add-vpn
overflow_add-vpn c = omega (arith, page-lt _ c.args.slot _ c.vpn15_of.ensures)

pub returns : goal.returns
returns c = let empty = c.empty_entry.ensures in
    let first = c.if-e-empty_entry.false in
    let id = c.page_id_of-id.ensures in
    claims-page _ _ _ c.requires.0 c.requires.1 empty first _ id c.if-id-gt62.false _ c.vpn15_of.ensures
