-- `store::kept` meets its contract: a slot is kept by its entry's claim. Assumes nothing.
use native.Mathlib.Omega.{arith}
use Rattle.store.proofs.KeptLaws.{claimed-page, kept-nothing, kept-void, kept-page}
use Rattle.store.proofs.kept.Goals as goal

pub walk_page-found-requires : goal.walk_page-found-requires
walk_page-found-requires g c = let page = claimed-page _ _ _ c.claim_of.ensures _ c.in-Of.is in
    (omega (arith, page.id-known), page.vpn-fits, c.requires.0)

pub agrees_with_leaf-requires : goal.agrees_with_leaf-requires
agrees_with_leaf-requires g c = let claims = c.claim_of.ensures in
    let page = c.in-Of.is in
    (claimed-page _ _ _ claims _ page, c.requires.2)

pub returns-in-Nothing : goal.returns-in-Nothing
returns-in-Nothing g c = kept-nothing _ _ _ c.claim_of.ensures _ c.in-Nothing.is

pub returns-in-Void : goal.returns-in-Void
returns-in-Void g c = kept-void _ _ _ c.claim_of.ensures _ c.in-Void.is

pub returns-in-Of : goal.returns-in-Of
returns-in-Of g c = let claims = c.claim_of.ensures in
    let page = c.in-Of.is in
    kept-page _ _ _ claims _ page _ _ _ c.walk_page-found.ensures c.agrees_with_leaf.ensures
