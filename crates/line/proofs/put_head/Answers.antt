use native.Mathlib.Omega.{arith}
use Rattle.line.proofs.LineLaws.{long-le, word_room, hex-room, head-put}
use Rattle.line.proofs.put_head.Goals as goal

pub put_decimal-requires : goal.put_decimal-requires
put_decimal-requires c = let k = long-le c.args.number (omega arith) in omega arith

pub put_word-requires : goal.put_word-requires
put_word-requires c = word_room _ _ _ c.args.outcome c.requires (omega arith) _ _ c.put_decimal.ensures.grows

pub put_hex-requires : goal.put_hex-requires
put_hex-requires c = hex-room _ _ _ _ c.requires (omega arith) _ _ _ _ c.put_decimal.ensures.grows c.put_word.ensures.word

pub returns-clause-head : goal.returns-clause-head
returns-clause-head c =
    head-put _ _ _ _ c.requires (omega arith) _ _ _ _ c.put_decimal.ensures.grows c.put_word.ensures.word _ _ _ c.value_of.ensures
    c.put_hex.ensures.grows
