use native.Mathlib.Omega.{arith}
use Rattle.access.proofs.AccessLaws.{context-lt}
use Rattle.mmu.proofs.ServedLaws.{page-lt, first-accepted, serve-tried, serve-final, serve-loaded}
use Rattle.mmu.proofs.serve.Goals as goal

pub returns-then-first-ne-MISS : goal.returns-then-first-ne-MISS
returns-then-first-ne-MISS c = serve-tried _ _ _ c.translate-first.ensures _ (λ miss. omega (arith, c.if-first-ne-MISS.true)) c.tried_reply.ensures

pub walk_page-found-requires : goal.walk_page-found-requires
walk_page-found-requires c = let l = context-lt c.args.r c.requires.0.registers-fit in
    (omega arith, page-lt _ _ c.vpn_of-vpn.ensures, c.requires.1)

pub returns-in_default : goal.returns-in_default
returns-in_default c = let missed = c.if-first-ne-MISS.false in
    let page = c.vpn_of-vpn.ensures in
    let walk = c.walk_page-found.ensures in
    let value = c.walk_fault-value.ensures in
    serve-final _ _ _ c.translate-first.ensures _ _ _ missed page walk _ c.in_default.not-Leaf value c.answered.ensures

pub load_and_retry-requires : goal.load_and_retry-requires
load_and_retry-requires c = first-accepted _ _ _ _ c.translate-first.ensures c.requires.0

pub returns : goal.returns
returns c = let missed = c.if-first-ne-MISS.false in
    let page = c.vpn_of-vpn.ensures in
    let walk = c.walk_page-found.ensures in
    let leaf = c.in-Leaf.is in
    serve-loaded _ _ _ c.translate-first.ensures _ _ _ missed page walk _ _ leaf c.load_and_retry.ensures
