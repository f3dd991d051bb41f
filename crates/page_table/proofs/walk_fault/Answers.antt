use Prim.Native.Nat.{ℕ, ◌+◌}
use mathlib.Core.Path.{ap, sym, ◌∙◌}
use native.Mathlib.Omega.{arith}
use Rattle.page_table.specs.Faults.{walk_fault}
use Rattle.page_table.proofs.FaultLaws.{place-small}
use Rattle.page_table.proofs.walk_fault.Goals as goal

pub overflow_add-result : goal.overflow_add-result
overflow_add-result c = omega (arith, place-small _ _ c.stop_place.ensures)

pub overflow_add-result-in-Broken : goal.overflow_add-result-in-Broken
overflow_add-result-in-Broken c = omega (arith, place-small _ _ c.stop_place-in-Broken.ensures)

pub returns-in-Leaf : goal.returns-in-Leaf
unfolding walk_fault
returns-in-Leaf c = sym (ap walk_fault c.in-Leaf.is)

pub returns-in-Absent : goal.returns-in-Absent
unfolding walk_fault
returns-in-Absent c = ap (λ (place : ℕ). 16 + place) c.stop_place.ensures ∙ sym (ap walk_fault c.in-Absent.is)

pub returns-in-Broken : goal.returns-in-Broken
unfolding walk_fault
returns-in-Broken c = ap (λ (place : ℕ). 32 + place) c.stop_place-in-Broken.ensures ∙ sym (ap walk_fault c.in-Broken.is)
