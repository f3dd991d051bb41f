-- A turn fills one element; once the index is the run's length, all are filled.
use Rattle.std.proofs.Common.{◌∙◌, arith}
use Rattle.std.proofs.lemmas.List.{map-set}
use Rattle.wire.specs.Wire.{decoded}
use Rattle.wire.proofs.Turns.{filled_more, filled-all}
use Rattle.wire.proofs.decode.Goals as goal

pub loop-i-preserved : goal.loop-i-preserved
loop-i-preserved g c =
    rw (map-set g.N.Number.value c.loop-i.numbers c.loop-i.i c.read.result)
    (filled_more _ _ _ _ _ c.loop-i.invariant (omega arith) c.read.ensures.number)

pub returns : goal.returns
unfolding decoded
returns g c = g.met.N.Number.each c.loop-i.numbers ∙ filled-all _ _ _ _ c.loop-i.invariant (omega arith)
