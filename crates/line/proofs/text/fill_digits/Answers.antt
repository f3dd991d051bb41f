use mathlib.Core.Path.{refl}
use native.Mathlib.Omega.{arith}
use Rattle.line.proofs.TextLaws.{spelt-none, spelt-more, spelt-inside, spelt-all, digit-below}
use Rattle.line.proofs.text.fill_digits.Goals as goal

pub loop-place-init : goal.loop-place-init
loop-place-init c = spelt-none _ _ _ _ refl

pub digit-requires : goal.digit-requires
digit-requires c = digit-below _ _ c.requires.0 c.requires.1

pub bounds-part-place : goal.bounds-part-place
bounds-part-place c = spelt-inside _ _ _ _ _ _ c.loop-place.invariant (omega arith)

pub nonzero_div-rest : goal.nonzero_div-rest
nonzero_div-rest c = c.requires.0

pub loop-place-preserved : goal.loop-place-preserved
loop-place-preserved c = spelt-more _ _ _ _ _ _ _ _ c.loop-place.invariant (omega arith) refl c.digit.ensures

pub shape_of-part : goal.shape_of-part
shape_of-part c = c.loop-place.invariant.long

pub returns : goal.returns
returns c = spelt-all _ _ _ _ _ _ c.loop-place.invariant (omega arith)
