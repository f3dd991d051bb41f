-- A word for every four bytes.
use Rattle.std.proofs.Common.{sym}
use Rattle.table_bytes.proofs.Words.{words-length}
use Rattle.table_bytes.proofs.TableBytesTableRun.count.Goals as goal

pub returns : goal.returns
returns c = sym (words-length _)
