use Rattle.slots.proofs.Slots.{fits-length}
use Rattle.collector.proofs.WordLaws.{visited-present}
use mathlib.Core.Path.{refl, sym, ◌∙◌}
use native.Mathlib.Omega.{arith}
use Rattle.collector.proofs.TurnLaws.{going-none, going-length, going-fits, going-given, going-emptied, going-visit}
use Rattle.collector.proofs.TurnLaws.{going-skip, going-all}
use Rattle.collector.proofs.aging.age_table.Goals as goal
use Rattle.collector.proofs.aging.age_table.Goals.{then-is_visited, else-is_visited}

pub loop-k-init : goal.loop-k-init
loop-k-init c = going-none _ _ _ _

pub overflow_mul-index : goal.overflow_mul-index
overflow_mul-index c = omega (arith, c.requires)

pub overflow_add-index : goal.overflow_add-index
overflow_add-index c = omega (arith, c.requires)

pub offset_bounds-words-index : goal.offset_bounds-words-index
offset_bounds-words-index c = omega (arith, c.requires)

pub bounds-words-index : goal.bounds-words-index
bounds-words-index c = omega (
  arith,
  c.requires,
  going-length _ _ _ _ _ _
      c.loop-k.invariant,
)

pub is_visited-requires : goal.is_visited-requires
is_visited-requires c = tt

pub overflow_cast-index : goal.overflow_cast-index
overflow_cast-index c = omega (arith, c.requires)

pub age_leaf-aged-requires : goal.age_leaf-aged-requires
age_leaf-aged-requires c = let start = c.requires in
    let so_far = c.loop-k.invariant in
    let long = going-length _ _ _ _ _ _ so_far in (
      going-fits _ _ _ _ _ _ so_far ∙ start.0,
      omega (arith, start),
      omega (arith, start),
      visited-present _ _ _ _ c.is_visited.ensures c.if-is_visited.true,
      omega (arith, start, going-given _ _ _ _ _ _ so_far),
      omega (arith, start, going-emptied _ _ _ _ _ _ so_far),
    )

pub loop-k-preserved : goal.loop-k-preserved
loop-k-preserved c = elim c.if-is_visited.branch [
  | then-is_visited w ↦ rw (w.buffer-is, w.words-is, w.aged-is) (going-visit _ _ _ _ _ _ c.loop-k.invariant (omega arith) _ _ refl
      c.is_visited.ensures w.if-is_visited.true _ w.age_leaf-aged.ensures)
  | else-is_visited w ↦ rw (w.buffer-is, w.words-is, w.aged-is) (going-skip _ _ _ _ _ _ c.loop-k.invariant (omega arith) _ _ refl
      c.is_visited.ensures w.if-is_visited.false)
]

pub shape_of-buffer : goal.shape_of-buffer
shape_of-buffer c = fits-length _ (going-fits _ _ _ _ _ _ c.loop-k.invariant ∙ c.requires.0)
    ∙ sym (fits-length _ c.requires.0)

pub shape_of-words : goal.shape_of-words
shape_of-words c = going-length _ _ _ _ _ _ c.loop-k.invariant

pub returns : goal.returns
returns c = going-all _ _ _ _ _ _ c.loop-k.invariant (omega arith)
