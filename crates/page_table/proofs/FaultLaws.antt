-- What a walk's fault value says. Assumes nothing.
use Prim.Native.Nat.{ℕ, zero, suc, ◌+◌, ◌*◌, ◌/◌, ◌%◌, ◌≤◌, ◌<◌}
use mathlib.Core.Path.{◌≡◌, refl}
use mathlib.Core.Bool.{Bool, true, false}
use mathlib.Core.Logic.{inl, inr}
use native.Mathlib.Omega.{arith}
use types.Run.{OneOf}
use borrow.Author.Tests.{eq-eqb, ne_eqb}
use Rattle.runs.specs.Bits.{bit}
use Rattle.runs.proofs.Bits.{bit_le}
use Rattle.page_table.specs.Walk.{walk_page}
use Rattle.page_table.specs.Faults.{stop_place, walk_fault, fault_kind, fault_level, fault_global, Tells, absent_faults, broken_faults}
use Rattle.page_table.specs.Faults.{ToldByFault, WalkTold}
use Rattle.page_table.specs.declared.Found.{Found}
use Rattle.page_table.specs.declared.Stop.{Stop}
use Rattle.page_table.specs.declared.Walk.{Walk}
use Rattle.page_table.specs.declared.Walk.TheVariants.{Leaf, Absent, Broken}
use Rattle.page_table.proofs.Walks.{Levelled, walk-level, absent-own}

-- a place has bits 8 to 12 alone, so what stands below it is the kind
pub place-lt : (s : Stop) → stop_place s < 8192
unfolding stop_place
place-lt s = omega (arith, bit_le s.global)

pub place-small : (s : Stop) (r : ℕ) → r ≡ stop_place s → r < 8192
place-small s r e = rw e (place-lt s)

pub kind-told : (kind : ℕ) (s : Stop) → kind < 256 → fault_kind (kind + stop_place s) ≡ kind
unfolding fault_kind stop_place
kind-told kind s l = omega (arith, bit_le s.global)

tells : (kind : ℕ) (s : Stop) → kind < 256 → s.level ≤ 3 → Tells (kind + stop_place s) kind s
unfolding fault_level fault_global stop_place
tells kind s k l = record {
  kind-is = kind-told kind s k;
  level-is = omega (arith, bit_le s.global);
  tree_is = by-tree s.global;
}
  where
    by-tree : (g : Bool) → fault_global (kind + (s.level % 16 * 256 + bit g * 4096)) ≡ g
    by-tree true = eq-eqb ((kind + (s.level % 16 * 256 + 1 * 4096)) / 4096 % 2) 1 (omega arith)
    by-tree false = ne_eqb ((kind + (s.level % 16 * 256 + 0 * 4096)) / 4096 % 2) 1 (λ e. omega arith)

absent-one : (s : Stop) → s.global ≡ false → (1 ≤ s.level) × (s.level ≤ 3) → OneOf absent_faults (walk_fault (Absent s))
unfolding walk_fault stop_place
absent-one s own l = rw own (go s.level l)
  where
    go : (n : ℕ) → (1 ≤ n) × (n ≤ 3) → OneOf absent_faults (16 + (n % 16 * 256 + 0 * 4096))
    go zero l = absurd (omega arith)
    go (suc zero) l = inl refl
    go (suc (suc zero)) l = inr (inl refl)
    go (suc (suc (suc zero))) l = inr (inr refl)
    go (suc (suc (suc (suc n)))) l = absurd (omega arith)

broken-one : (s : Stop) → (1 ≤ s.level) × (s.level ≤ 2) → OneOf broken_faults (walk_fault (Broken s))
unfolding walk_fault stop_place
broken-one s l = go s.global s.level l
  where
    go : (g : Bool) (n : ℕ) → (1 ≤ n) × (n ≤ 2) → OneOf broken_faults (32 + (n % 16 * 256 + bit g * 4096))
    go g zero l = absurd (omega arith)
    go false (suc zero) l = inl refl
    go false (suc (suc zero)) l = inr (inl refl)
    go true (suc zero) l = inr (inr (inl refl))
    go true (suc (suc zero)) l = inr (inr (inr refl))
    go g (suc (suc (suc n))) l = absurd (omega arith)

-- what each answer's value says
leaf-told : (f : Found) → ToldByFault (Leaf f)
unfolding ToldByFault walk_fault
leaf-told f = refl

absent-told : (s : Stop) → s.global ≡ false → (1 ≤ s.level) × (s.level ≤ 3) → ToldByFault (Absent s)
unfolding ToldByFault walk_fault
absent-told s own l = (tells 16 s (omega arith) l.1, absent-one s own l)

broken-told : (s : Stop) → (1 ≤ s.level) × (s.level ≤ 2) → ToldByFault (Broken s)
unfolding ToldByFault walk_fault
broken-told s l = (tells 32 s (omega arith) (omega (arith, l.1)), broken-one s l)

pub walk-told : WalkTold
unfolding Levelled
walk-told words id vpn = go (walk_page words id vpn) refl (walk-level words vpn id)
  where
    go : (x : Walk) → walk_page words id vpn ≡ x → Levelled x → ToldByFault x
    go (Leaf f) e l = leaf-told f
    go (Absent s) e l = absent-told s (absent-own words vpn id e) l
    go (Broken s) e l = broken-told s l
