use Rattle.mups16.proofs.MapLaws.{map-refused, map-done}
use Rattle.mups16.proofs.maps.map.Goals as goal

pub returns-in-Ok : goal.returns-in-Ok
returns-in-Ok c = let run = c.in-Ok.ensures.1 in map-done _ _ _ _ _ run.long _ run.same _ c.mapping_of-m.ensures _ c.after.ensures

pub returns-in-Err : goal.returns-in-Err
returns-in-Err c = map-refused _ _ _ _ _ c.in-Err.ensures.1 _ c.into.ensures
