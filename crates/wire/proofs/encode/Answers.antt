-- A turn writes one number's bytes.
use Rattle.std.proofs.Common.{◌≡◌, get_or, map, sym, ap, ◌∙◌}
use Rattle.std.proofs.lemmas.List.{get_or-map, length-map}
use Rattle.wire.specs.Wire.{bytes_of, encoded}
use Rattle.runs.specs.Pieces.{flat}
use Rattle.wire.proofs.Turns.{encoded-more, encoded-all}
use Rattle.wire.proofs.encode.Goals as goal

pub loop-i-preserved : goal.loop-i-preserved
loop-i-preserved g c =
    let v = g.N.Number.value in
    let xs = c.args.numbers.now in
    let i = c.loop-i.i in
    let x = c.index-numbers-i in
    let counts : v x.result ≡ get_or (map v xs) i 0 = ap v x.is ∙ sym (get_or-map v xs i x.result 0 c.loop-i-test.true) in
    rw (c.write.ensures, counts) (encoded-more _ _ _ _ _ c.loop-i.invariant (rw length-map c.loop-i-test.true))

pub returns : goal.returns
unfolding encoded
returns g c =
    let xs = c.args.numbers.now in
    encoded-all _ _ _ _ _ c.loop-i.invariant (rw length-map c.loop-i-test.false)
    ∙ ap (flat (bytes_of g.N.Number.SIZE)) (sym (g.met.N.Number.each xs))
