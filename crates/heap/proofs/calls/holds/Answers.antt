use mathlib.Core.Path.{sym, ◌∙◌}
use native.Mathlib.Omega.{arith}
use Rattle.heap.proofs.PoolLaws.{holds-below, holds-past, holds-inside}
use Rattle.heap.proofs.calls.holds.Goals as goal

pub returns-then-pfn-first : goal.returns-then-pfn-first
returns-then-pfn-first c = holds-below _ _ c.if-pfn-first.true

pub returns-then-size-place : goal.returns-then-size-place
returns-then-size-place c = holds-past _ _ c.if-pfn-first.false (omega (arith, c.if-size-place.true))

pub returns : goal.returns
returns c = c.held_at.ensures ∙ sym (holds-inside _ _ c.if-pfn-first.false c.if-size-place.false)
