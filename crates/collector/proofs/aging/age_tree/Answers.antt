use mathlib.Core.Path.{refl, sym, ◌∙◌}
use native.Mathlib.Omega.{arith}
use Rattle.slots.proofs.Slots.{fits-length}
use Rattle.page_table.specs.Stretches.{directory_word}
use Rattle.collector.proofs.TreeTurns.{climbing-none, climbing-length, climbing-fits, climbing-given, climbing-emptied}
use Rattle.collector.proofs.TreeTurns.{climbing-table, climbing-on, climbing-skip, climbing-all}
use Rattle.collector.proofs.aging.age_tree.Goals as goal
use Rattle.collector.proofs.aging.age_tree.Goals.{then-leads_on, else-leads_on}

pub loop-j-init : goal.loop-j-init
loop-j-init c = climbing-none _ _ _ _

pub overflow_mul-word : goal.overflow_mul-word
overflow_mul-word c = omega (arith, c.requires)

pub overflow_add-word : goal.overflow_add-word
overflow_add-word c = omega (arith, c.requires)

pub offset_bounds-words-directory : goal.offset_bounds-words-directory
offset_bounds-words-directory c = omega (arith, c.requires)

pub bounds-words-directory : goal.bounds-words-directory
bounds-words-directory c = omega (
  arith,
  c.requires,
  climbing-length _ _ _ _ _ _
      c.loop-j.invariant,
)

pub leads_on-requires : goal.leads_on-requires
leads_on-requires c = tt

pub number_of-requires : goal.number_of-requires
number_of-requires c = tt

pub age_table-aged-requires : goal.age_table-aged-requires
unfolding directory_word
age_table-aged-requires c = let start = c.requires in
    let so_far = c.loop-j.invariant in
    let long = climbing-length _ _ _ _ _ _ so_far in (
      climbing-fits _ _ _ _ _ _ so_far ∙ start.0,
      omega (arith, start),
      omega (arith, start),
      climbing-table _ _ _ _ _ _ so_far _ start.4 (omega arith) _ refl _ c.leads_on.ensures
          c.if-leads_on.true _ c.number_of.ensures,
      omega (arith, start, climbing-given _ _ _ _ _ _ so_far),
      omega (arith, start, climbing-emptied _ _ _ _ _ _ so_far),
    )

pub loop-j-preserved : goal.loop-j-preserved
unfolding directory_word
loop-j-preserved c = elim c.if-leads_on.branch [
  | then-leads_on w ↦ rw (w.buffer-is, w.words-is, w.aged-is) (climbing-on _ _ _ _ _ _ c.loop-j.invariant _ c.requires.4
      (omega arith) _ refl _ c.leads_on.ensures w.if-leads_on.true _ w.number_of.ensures _ w.age_table-aged.ensures)
  | else-leads_on w ↦ rw (w.buffer-is, w.words-is, w.aged-is) (climbing-skip _ _ _ _ _ _ c.loop-j.invariant _ c.requires.4
      (omega arith) _ refl _ c.leads_on.ensures w.if-leads_on.false)
]

pub shape_of-buffer : goal.shape_of-buffer
shape_of-buffer c = fits-length _ (climbing-fits _ _ _ _ _ _ c.loop-j.invariant ∙ c.requires.0)
    ∙ sym (fits-length _ c.requires.0)

pub shape_of-words : goal.shape_of-words
shape_of-words c = climbing-length _ _ _ _ _ _ c.loop-j.invariant

pub returns : goal.returns
returns c = climbing-all _ _ _ _ _ _ c.loop-j.invariant (omega arith)
