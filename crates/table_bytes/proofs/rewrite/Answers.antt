-- The words after the store are the words with the one written.
use Rattle.std.proofs.Common.{arith, rules}
use Rattle.slots.specs.Buffer.{buffer_fits}
use Rattle.table_bytes.proofs.Words.{word-inside, roots-stay, rewritten}
use Rattle.table_bytes.proofs.rewrite.Goals as goal

pub write-requires : goal.write-requires
write-requires c = word-inside _ _ c.requires.2

pub returns : goal.returns
returns c = rewritten _ _ _ _ _ _ _ c.requires.2 (omega arith) c.write.ensures c.sweep.ensures

pub sweep-requires : goal.sweep-requires
unfolding buffer_fits
sweep-requires c = (search rules, roots-stay _ _ _ _ c.requires.1 c.requires.2 c.write.ensures)
