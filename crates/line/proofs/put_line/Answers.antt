use native.Mathlib.Omega.{arith}
use Rattle.line.specs.Text.{ascii}
use Rattle.line.proofs.LineLaws.{space-room, loads-room, end-room, line-put, line-room}
use Rattle.line.proofs.put_line.Goals as goal

pub put-requires : goal.put-requires
put-requires c = space-room _ _ _ c.args.reply c.requires (omega arith) (omega arith) _ _ c.put_head.ensures.head

pub put_decimal-requires : goal.put_decimal-requires
unfolding ascii
put_decimal-requires c =
    loads-room _ _ _ c.args.reply c.requires (omega arith) (omega arith) _ _ c.put_head.ensures.head _ _ c.put.ensures.grows

pub put-requires-2 : goal.put-requires-2
unfolding ascii
put-requires-2 c =
    end-room _ _ _ c.args.reply c.requires (omega arith) (omega arith) _ _ c.put_head.ensures.head _ _ c.put.ensures.grows _ _
    c.put_decimal.ensures.grows

pub returns-clause-line : goal.returns-clause-line
unfolding ascii
returns-clause-line c =
    line-put _ _ _ c.args.reply c.requires (omega arith) (omega arith) _ _ c.put_head.ensures.head _ _ c.put.ensures.grows _ _
    c.put_decimal.ensures.grows _ _ c.put-2.ensures.grows

pub returns-clause-room : goal.returns-clause-room
returns-clause-room c = line-room _ _ _ c.args.reply _ _ (omega arith) (omega arith) (returns-clause-line c)
