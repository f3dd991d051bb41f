use native.Mathlib.Omega.{arith}
use Rattle.runs.proofs.Bits.{byte_le}
use Rattle.entry.proofs.Fields.{vpn-lt}
use Rattle.access.proofs.AccessLaws.{cause-is}
use Rattle.access.proofs.with_cause.Goals as goal

pub overflow_mul-q : goal.overflow_mul-q
overflow_mul-q c = omega (arith, c.vpn_of-vpn.ensures, vpn-lt c.args.a.address)

pub overflow_add-q : goal.overflow_add-q
overflow_add-q c = omega (arith, c.vpn_of-vpn.ensures, vpn-lt c.args.a.address)

pub overflow_add-q-2 : goal.overflow_add-q-2
overflow_add-q-2 c = omega (arith, byte_le c.args.a.write)

pub returns : goal.returns
returns c = cause-is _ _ _ _ _ c.vpn_of-vpn.ensures
