use Rattle.entry.proofs.Fields.{fields-of}
use Rattle.entry.proofs.unpack.Goals as goal

pub returns : goal.returns
returns c = fields-of _ _ _ _ _ c.vpn15_of.ensures c.page_id_of.ensures
    c.is_global.ensures c.is_valid.ensures
