use native.Mathlib.Omega.{arith}
use Rattle.reach.proofs.LinkLaws.{number_small}
use Rattle.reach.proofs.RootLaws.{stays-nowhere, stays-shared, shift_fits, shift-all}
use Rattle.reach.proofs.links.shift_root.Goals as goal

pub returns-then-not-leads_on : goal.returns-then-not-leads_on
returns-then-not-leads_on c = stays-nowhere _ _ _ _ _ c.requires.1 _ c.leads_on.ensures c.if-not-leads_on.true-raw

pub overflow_cast-directory : goal.overflow_cast-directory
overflow_cast-directory c = let h = number_small _ _ c.number_of-directory.ensures in omega arith

pub returns-then-reached_beside : goal.returns-then-reached_beside
returns-then-reached_beside c = stays-shared _ _ _ _ _ c.requires.1 _ c.leads_on.ensures c.if-not-leads_on.false-raw _ c.number_of-directory.ensures _ c.reached_beside.ensures c.if-reached_beside.true

pub shift_directory-requires : goal.shift_directory-requires
shift_directory-requires c = shift_fits _ _ _ _ _ c.requires.1 _ c.leads_on.ensures c.if-not-leads_on.false-raw _ c.number_of-directory.ensures _ c.reached_beside.ensures c.if-reached_beside.false c.requires.0

pub returns : goal.returns
returns c = shift-all _ _ _ _ _ c.requires.1 _
    c.leads_on.ensures c.if-not-leads_on.false-raw _ c.number_of-directory.ensures _ c.reached_beside.ensures c.if-reached_beside.false _ c.shift_directory.ensures
