use mathlib.Core.Path.{refl}
use Rattle.entry.specs.Address.{vpn_of}
use Rattle.entry.proofs.vpn_of.Goals as goal

pub returns : goal.returns
unfolding vpn_of
returns c = refl
