-- The word has its four bytes.
use Rattle.table_bytes.proofs.Words.{word-inside, word_stands}
use Rattle.table_bytes.proofs.TableBytesTableRun.word_at.Goals as goal

pub read-requires : goal.read-requires
read-requires c = word-inside _ _ c.requires

pub returns : goal.returns
returns c = word_stands _ _ _ c.requires c.read.ensures.number
