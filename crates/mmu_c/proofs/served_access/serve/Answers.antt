use native.Mathlib.Omega.{arith}
use Rattle.access.proofs.AccessLaws.{context-lt}
use Rattle.mmu.proofs.ServedLaws.{page-lt}
use Rattle.mmu_c.proofs.ServedLaws.{stands, final, miss-accepted, loaded}
use Rattle.mmu_c.proofs.served_access.serve.Goals as goal

pub returns-then-first-ne-MISS : goal.returns-then-first-ne-MISS
returns-then-first-ne-MISS c = stands _ _ _ _ _ _ c.requires.3 c.requires.4 c.requires.1 _ c.if-first-ne-MISS.true c.tried_reply.ensures

pub walk_page-found-requires : goal.walk_page-found-requires
walk_page-found-requires c = let l = context-lt c.args.r c.requires.0.registers-fit in
    (omega arith, page-lt _ _ c.vpn_of-vpn.ensures, c.requires.2)

pub returns-in_default : goal.returns-in_default
returns-in_default c = let missed = c.if-first-ne-MISS.false in
    let page = c.vpn_of-vpn.ensures in
    let walk = c.walk_page-found.ensures in
    let value = c.walk_fault-value.ensures in
    final _ _ _ _ _ _ c.requires.3 c.requires.4 c.requires.1 _ _ _ missed page walk _ c.in_default.not-Leaf value
    c.answered.ensures

pub load_and_retry-reply-requires : goal.load_and_retry-reply-requires
load_and_retry-reply-requires c = miss-accepted _ _ c.args.tables.now _ _ _ c.requires.3 c.requires.4 c.requires.1 c.requires.0

pub returns : goal.returns
returns c = let missed = c.if-first-ne-MISS.false in
    let page = c.vpn_of-vpn.ensures in
    let walk = c.walk_page-found.ensures in
    let leaf = c.in-Leaf.is in
    let retry = c.load_and_retry-reply.ensures in
    loaded _ _ _ _ _ _ c.requires.3 c.requires.4 c.requires.1 _ _ _ missed page walk c.requires.0 _ _ _ leaf retry
    c.put_back.ensures
