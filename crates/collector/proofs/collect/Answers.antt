use mathlib.Core.Path.{refl}
use native.Mathlib.Omega.{arith}
use Rattle.registers.proofs.RefusalLaws.{refused-ne0}
use Rattle.collector.proofs.CollectLaws.{collect-refused, accepted-grounds, collect-done}
use Rattle.collector.proofs.collect.Goals as goal

pub returns-in-Err : goal.returns-in-Err
returns-in-Err c = collect-refused _ _ _ _ _ c.in-Err.ensures (refused-ne0 _) c.refused_collect.ensures

pub age-aged-requires : goal.age-aged-requires
age-aged-requires c =
    let grounds = accepted-grounds _ _ _ _ c.in_default.ensures refl in
    let known = grounds.known in
    (grounds.ready.buffer-fits, grounds.ready.words-fit, omega arith, grounds.tree-fits)

pub returns : goal.returns
returns c = collect-done _ _ _ _ c.in_default.ensures refl _ _ _ c.age-aged.ensures _ c.done-reply.ensures
