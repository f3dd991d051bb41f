-- The bytes that std lists are the number's.
use Rattle.std.proofs.Common.{◌∙◌}
use Rattle.wire.proofs.Bytes.{high-first}
use Rattle.wire.proofs.U32Number.put.Goals as goal

pub returns : goal.returns
returns c = c.copy_from_slice.ensures.after ∙ c.to_be_bytes.ensures ∙ high-first 4 c.args.self
