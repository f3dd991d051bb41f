use Rattle.heap.proofs.BitLaws.{flipped-bit}
use Rattle.heap.proofs.bits.flip.Goals as goal

pub returns : goal.returns
returns c = flipped-bit _ _ _ _ c.word_at-word.ensures c.put_word.ensures
