use native.Mathlib.Omega.{arith}
use Rattle.reach.proofs.LinkLaws.{number_small, shift_none, shift_one, shift-inside, shift-steps}
use Rattle.reach.proofs.links.shift.Goals as goal

pub returns-then-not-leads_on : goal.returns-then-not-leads_on
returns-then-not-leads_on c = shift_none _ _ _ _ _ c.leads_on.ensures c.if-not-leads_on.true-raw

pub offset_bounds-links-table : goal.offset_bounds-links-table
offset_bounds-links-table c = omega (arith, number_small _ _ c.number_of-table.ensures)

pub bounds-links-table : goal.bounds-links-table
bounds-links-table c = shift-inside _ _ _ _ _ c.leads_on.ensures c.if-not-leads_on.false-raw _ c.number_of-table.ensures c.requires

pub step-requires : goal.step-requires
step-requires c = shift-steps _ _ _ _ _ c.leads_on.ensures c.if-not-leads_on.false-raw _ c.number_of-table.ensures c.requires

pub offset_bounds-links-table-2 : goal.offset_bounds-links-table-2
offset_bounds-links-table-2 c = omega (arith, number_small _ _ c.number_of-table.ensures)

pub bounds-links-table-2 : goal.bounds-links-table-2
bounds-links-table-2 c = shift-inside _ _ _ _ _ c.leads_on.ensures c.if-not-leads_on.false-raw _ c.number_of-table.ensures c.requires

pub returns : goal.returns
returns c = shift_one _ _ _ _ _ c.leads_on.ensures c.if-not-leads_on.false-raw _ c.number_of-table.ensures _ c.step.ensures
