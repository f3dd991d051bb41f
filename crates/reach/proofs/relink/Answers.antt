use mathlib.Core.Path.{◌∙◌}
use Rattle.reach.proofs.RootLaws.{root-off}
use Rattle.reach.proofs.StoreLaws.{was-root, is-root, idle, takes, adds, shifted, stays}
use Rattle.reach.proofs.relink.Goals as goal

pub shift_root-requires : goal.shift_root-requires
shift_root-requires c = (
  c.requires.0,
  was-root _ _ _ _ c.requires.2 c.requires.0 c.requires.1 c.if-index-lt-ROOTS.true,
)

pub shift_root-requires-then-index-lt-ROOTS : goal.shift_root-requires-then-index-lt-ROOTS
shift_root-requires-then-index-lt-ROOTS c = (
  c.requires.0,
  c.shift_root.ensures ∙ root-off _ _ _ _,
)

pub returns-then-index-lt-ROOTS : goal.returns-then-index-lt-ROOTS
returns-then-index-lt-ROOTS c = is-root _ _ _ _ c.requires.2
    c.requires.0 c.requires.1 c.if-index-lt-ROOTS.true _ c.shift_root-then-index-lt-ROOTS.ensures

pub returns-then-not-leads_on : goal.returns-then-not-leads_on
returns-then-not-leads_on c = idle _ _ _ _ c.requires.2 c.requires.0 c.requires.1 _ _ c.leads_on.ensures c.leads_on-2.ensures c.if-index-lt-ROOTS.false c.if-not-leads_on.true-raw

pub shift-requires : goal.shift-requires
shift-requires c = takes _ _ _ _ c.requires.2 c.requires.0 c.requires.1 c.if-index-lt-ROOTS.false _ c.reached_beside.ensures c.if-reached_beside.true

pub shift-requires-then-reached_beside : goal.shift-requires-then-reached_beside
shift-requires-then-reached_beside c = adds _ _ _ _ c.requires.2 c.requires.0 c.requires.1 c.if-index-lt-ROOTS.false _ c.reached_beside.ensures c.if-reached_beside.true _ c.shift.ensures

pub returns-then-reached_beside : goal.returns-then-reached_beside
returns-then-reached_beside c = shifted _ _ _ _ c.requires.2 c.requires.0 c.requires.1 c.if-index-lt-ROOTS.false _ c.reached_beside.ensures c.if-reached_beside.true _ c.shift.ensures _ c.shift-then-reached_beside.ensures

pub returns-else-reached_beside : goal.returns-else-reached_beside
returns-else-reached_beside c = stays _ _ _ _ c.requires.2 c.requires.0 c.requires.1 c.if-index-lt-ROOTS.false _ c.reached_beside.ensures c.if-reached_beside.false
