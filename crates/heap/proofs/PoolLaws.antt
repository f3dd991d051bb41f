-- What a pool that fits tells, and which of its frames are held. Assumes nothing.
use Prim.Native.Nat.{ℕ, ◌+◌, ◌-◌, ◌≤◌, ◌<◌}
use mathlib.Core.Path.{◌≡◌, sym, ◌∙◌}
use mathlib.Core.Bool.{Bool, true, false, not, ◌&&◌}
use native.Mathlib.Omega.{arith}
use lib.Dec.{leb}
use borrow.Author.Tests.{le-leb, lt-leb, lt-ltb, le-ltb, leb-true, not-false}
use Rattle.runs.proofs.Bools.{both}
use Rattle.heap.specs.Bits.{held_at}
use Rattle.heap.specs.Pools.{frames_fit, pool_fits, holds}
use Rattle.heap.specs.declared.Pool.{Pool}

pub record Fits (first size : ℕ) : Type 0 where
  pub not-empty : 1 ≤ size
  pub at_most : size ≤ 4096
  pub in_memory : first + size ≤ 524288

pub frames-in : (first size : ℕ) → frames_fit first size ≡ true → Fits first size
unfolding frames_fit
frames-in first size h =
    let outer = both (leb 1 size && leb size 4096) (leb (first + size) 524288) h in
    let inner = both (leb 1 size) (leb size 4096) outer.0 in
    record {
      not-empty = leb-true 1 size inner.0;
      at_most = leb-true size 4096 inner.1;
      in_memory = leb-true (first + size) 524288 outer.1;
    }

-- the same by a test that the code made
pub frames-now : (first size : ℕ) (t : Bool) → t ≡ frames_fit first size → not t ≡ false → Fits first size
frames-now first size t tq h = frames-in first size (sym tq ∙ not-false t h)

pub pool-in : (p : Pool) → pool_fits p ≡ true → Fits p.first p.size
unfolding pool_fits
pool-in p h = frames-in p.first p.size h

-- a place of the pool
pub record Room (first size place : ℕ) : Type 0 where
  pub inside : place < size
  pub at_most : size ≤ 4096
  pub in_memory : first + size ≤ 524288

-- a pfn below the pool's frames, past them, and that of one of them
module _ (p : Pool) (pfn : ℕ) where
  pub holds-below : pfn < p.first → false ≡ holds p pfn
  unfolding holds
  holds-below l = sym (rw (lt-leb p.first pfn l))

  pub holds-past : p.first ≤ pfn → p.size ≤ pfn - p.first → false ≡ holds p pfn
  unfolding holds
  holds-past l h = sym (rw (le-leb p.first pfn l, le-ltb pfn (p.first + p.size) (omega arith)))

  pub holds-inside : p.first ≤ pfn → pfn - p.first < p.size → holds p pfn ≡ held_at p.bits (pfn - p.first)
  unfolding holds
  holds-inside l h = rw (le-leb p.first pfn l, lt-ltb pfn (p.first + p.size) (omega arith))
