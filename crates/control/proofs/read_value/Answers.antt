use native.Mathlib.Omega.{arith}
use Rattle.control.proofs.NumberLaws.{number_lt}
use Rattle.control.proofs.ReadLaws.{read-accepted, entry-there, reads-hi, reads-lo, reads-field}
use Rattle.control.proofs.read_value.Goals as goal

pub slot_at-e-requires : goal.slot_at-e-requires
slot_at-e-requires c = let a = entry-there _ _ _ c.requires in (a.0, omega (arith, a.1))

pub field-requires : goal.field-requires
field-requires c = omega (arith, number_lt (read-accepted _ _ _ c.requires))

pub returns-in-7 : goal.returns-in-7
returns-in-7 c = reads-hi _ _ _ _ _ c.in-7.is c.slot_at-e.ensures c.hi_at_select.ensures

pub returns-in-8 : goal.returns-in-8
returns-in-8 c = reads-lo _ _ _ _ _ c.in-8.is c.slot_at-e.ensures c.lo_of.ensures

pub returns-in_default : goal.returns-in_default
returns-in_default c = reads-field _ _ _ _ c.in_default.in_default-own.rest.0.1 c.in_default.in_default-own.rest.1 c.field.ensures
