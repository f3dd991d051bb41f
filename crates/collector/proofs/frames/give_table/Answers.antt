use Rattle.collector.proofs.CheckLaws.{table-at, table-end, giving-none, giving-skip, giving-on, giving-stops, giving-all}
use Rattle.collector.proofs.frames.give_table.Goals as goal
use Rattle.collector.proofs.frames.give_table.Goals.{then-is_visited+else-is_refused, else-is_visited}

pub loop-word-init : goal.loop-word-init
loop-word-init c = giving-none _ _ _ _ _

pub returns-then-is_refused : goal.returns-then-is_refused
returns-then-is_refused c =
    let at = table-at c.args.words.now c.args.table _ c.requires.1 c.loop-word-test.true in
    giving-stops _ _ _ _ _ _ _ c.loop-word.invariant at.0 _ at.1 _ c.is_visited.ensures c.if-is_visited.true _ c.pfn_of.ensures _
    c.give-reply.ensures _ c.is_refused.ensures c.if-is_refused.true

pub loop-word-preserved : goal.loop-word-preserved
loop-word-preserved c =
    let at = table-at c.args.words.now c.args.table _ c.requires.1 c.loop-word-test.true in
    elim c.if-is_visited.branch [
      | then-is_visited+else-is_refused w ↦ rw w.left-is (giving-on _ _ _ _ _ _ _ c.loop-word.invariant at.0 _ at.1 _
          c.is_visited.ensures w.if-is_visited.true _ w.pfn_of.ensures _ w.give-reply.ensures _ w.is_refused.ensures w.if-is_refused.false)
      | else-is_visited w ↦ rw w.left-is (giving-skip _ _ _ _ _ _ _ c.loop-word.invariant at.0 _ at.1 _
          c.is_visited.ensures w.if-is_visited.false)
    ]

pub returns : goal.returns
returns c = giving-all _ _ _ _ _ _ _ c.loop-word.invariant (table-end c.args.words.now c.args.table _ c.requires.1 c.loop-word-test.false)
