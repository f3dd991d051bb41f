use Rattle.mups16.proofs.MapLaws.{boot-made, entry-made}
use Rattle.mups16.proofs.maps.mapping_of.Goals as goal

pub returns-then-state : goal.returns-then-state
returns-then-state c = boot-made _ _ _ _ _ c.if-state.true _ c.boot_mapping.ensures

pub returns : goal.returns
returns c = entry-made _ _ _ _ _ c.if-state.false _ _ c.map_place.ensures c.entry_at-e.ensures _ c.entry_mapping.ensures
