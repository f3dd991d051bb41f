use Rattle.mmu_c.proofs.Locations.{fetched-page, run-accepted, tried}
use Rattle.mmu_c.proofs.first_try.Goals as goal

pub translate-requires : goal.translate-requires
translate-requires c = run-accepted _ _ _ _ _ c.vpn_of-vpn.ensures
    c.fetch.ensures c.requires.0

pub returns : goal.returns
returns c = record {
  answer = tried _ _ _ _ _ c.vpn_of-vpn.ensures c.fetch.ensures c.requires.0 _ c.translate.ensures;
  slots = fetched-page _ _ _ _ _ c.vpn_of-vpn.ensures c.fetch.ensures c.requires.0;
}
