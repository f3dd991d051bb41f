use Rattle.std.proofs.Common.{length, ap, arith, ◌∙◌}
use Rattle.reach.proofs.Searches.{directory-long, directory-place}
use Rattle.page_table.specs.Stretches.{directory_word}
use Rattle.collector.proofs.CheckLaws.{tree-none, tree-skip, tree-fits, tree-on, tree-stops, tree_all}
use Rattle.collector.proofs.frames.may_give_tree.Goals as goal
use Rattle.collector.proofs.frames.may_give_tree.Goals.{then-leads_on+in-Some, else-leads_on}

pub loop-word-init : goal.loop-word-init
loop-word-init c = tree-none _ _ _ _ _

pub give_table-requires : goal.give_table-requires
unfolding directory_word
give_table-requires c =
    let at = directory-place _ _ _ _ c.requires.1 c.directory-word-items.ensures c.loop-word-test.true in (
      c.requires.0,
      tree-fits _ _ _ _ _ _ _ c.loop-word.invariant at.0 _ at.1 _ c.leads_on.ensures c.if-leads_on.true _ c.number_of.ensures,
    )

pub returns-in-None : goal.returns-in-None
unfolding directory_word
returns-in-None c =
    let at = directory-place _ _ _ _ c.requires.1 c.directory-word-items.ensures c.loop-word-test.true in
    tree-stops _ _ _ _ _ _ _ c.loop-word.invariant at.0 _ at.1 _ c.leads_on.ensures c.if-leads_on.true _ c.number_of.ensures c.in-None.ensures

pub loop-word-preserved : goal.loop-word-preserved
unfolding directory_word
loop-word-preserved c =
    let at = directory-place _ _ _ _ c.requires.1 c.directory-word-items.ensures c.loop-word-test.true in
    elim c.if-leads_on.branch [
      | then-leads_on+in-Some w ↦ rw w.left-is (tree-on _ _ _ _ _ _ _ c.loop-word.invariant at.0 _ at.1 _ c.leads_on.ensures
          w.if-leads_on.true _ w.number_of.ensures _ w.in-Some.ensures)
      | else-leads_on w ↦ rw w.left-is (tree-skip _ _ _ _ _ _ _ c.loop-word.invariant at.0 _ at.1 _ c.leads_on.ensures w.if-leads_on.false)
    ]

pub returns : goal.returns
returns c =
    let long = ap length c.directory-word-items.ensures ∙ directory-long _ _ c.requires.1 in
    tree_all _ _ _ _ _ _ _ c.loop-word.invariant (omega (arith, long))
