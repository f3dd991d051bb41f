-- One frame of a pool that becomes held or free: its own bit, and every other. Assumes nothing.
use Prim.Native.Nat.{ℕ, ◌+◌, ◌-◌, ◌/◌, ◌%◌, ◌≤◌, ◌<◌}
use mathlib.Core.Path.{◌≡◌, refl, sym, ap, ◌∙◌}
use mathlib.Core.Logic.{◌≢◌}
use mathlib.Core.Bool.{Bool, true, false, not, ◌&&◌}
use mathlib.Core.List.{List}
use native.Mathlib.Omega.{arith}
use lib.Dec.{eqb, leb, ltb}
use lib.ListN.{length, get_or, length-set}
use lib.Seq.{get_or-set_same, get_or-set_other}
use borrow.Author.Tests.{eqb-true, eqb-false, leb-true}
use Rattle.runs.specs.Bits.{flag, bit, with_flag}
use Rattle.runs.specs.Counts.{count}
use Rattle.runs.proofs.Counts.{count-change}
use Rattle.heap.specs.Bits.{held_at, with_held}
use Rattle.heap.specs.Pools.{pool_fits, held_frames, holds, pool_with}
use Rattle.heap.specs.declared.Pool.{Pool}
use Rattle.runs.proofs.Flags.{with-same, with-other}
use Rattle.heap.proofs.PoolLaws.{pool-in, holds-inside}

-- the bits
pub mark-length : (b : Bool) (place : ℕ) (bits : List ℕ) → length (with_held b place bits) ≡ length bits
unfolding with_held
mark-length b place bits = simp length-set

module _ (b : Bool) (place : ℕ) (bits : List ℕ) (l : place / 64 < length bits) where
  new_word : get_or (with_held b place bits) (place / 64) 0 ≡ with_flag b (place % 64) (get_or bits (place / 64) 0)
  unfolding with_held
  new_word = get_or-set_same bits (place / 64) _ 0 l

  pub mark-same : held_at (with_held b place bits) place ≡ b
  unfolding held_at
  mark-same = ap (flag (place % 64)) new_word ∙ with-same b (place % 64) (get_or bits (place / 64) 0)

  pub mark-other : (other : ℕ) → other ≢ place → held_at (with_held b place bits) other ≡ held_at bits other
  unfolding held_at with_held
  mark-other other ne = by_word (eqb (other / 64) (place / 64)) refl
    where
      by_word : (t : Bool) → eqb (other / 64) (place / 64) ≡ t
          → flag (other % 64) (get_or (with_held b place bits) (other / 64) 0) ≡ flag (other % 64) (get_or bits (other / 64) 0)
      by_word true e =
          let same : other / 64 ≡ place / 64 = eqb-true (other / 64) (place / 64) e in
          ap (λ (k : ℕ). flag (other % 64) (get_or (with_held b place bits) k 0)) same
          ∙ ap (flag (other % 64)) new_word
          ∙ with-other b (other % 64) (place % 64) (get_or bits (place / 64) 0) (λ (q : other % 64 ≡ place % 64). ne (omega arith))
          ∙ ap (λ (k : ℕ). flag (other % 64) (get_or bits k 0)) (sym same)
      by_word false e = ap (flag (other % 64)) (get_or-set_other bits (place / 64) (other / 64) _ 0 (eqb-false (other / 64) (place / 64) e))

-- a pool whose words are all there, as an array of 64 is, and that passes the test of refusal 1
pub record Sound (p : Pool) : Type 0 where
  pub all_words : length p.bits ≡ 64
  pub fits : pool_fits p ≡ true

-- the frame at a place of the pool becomes b, where it was not
module _ (p : Pool) (sound : Sound p) (b : Bool) (place : ℕ) (inside : place < p.size) (was : held_at p.bits place ≡ not b) where
  after : Pool
  after = pool_with b place p

  in_words : place / 64 < length p.bits
  in_words = let s = (pool-in p sound.fits).at_most in omega (arith, sound.all_words)

  pub mark-sound : Sound (pool_with b place p)
  unfolding pool_with pool_fits
  mark-sound = record { all_words = mark-length b place p.bits ∙ sound.all_words; fits = sound.fits }

  pub mark-past : (other : ℕ) → p.size ≤ other → held_at (pool_with b place p).bits other ≡ held_at p.bits other
  unfolding pool_with
  mark-past other l = mark-other b place p.bits in_words other (λ (e : other ≡ place). omega arith)

  pub mark-frames : held_frames p + bit b ≡ held_frames (pool_with b place p) + bit (not b)
  unfolding held_frames pool_with
  mark-frames =
      ap (λ (t : Bool). count (held_at p.bits) p.size + bit t) (sym (mark-same b place p.bits in_words))
      ∙ count-change (held_at p.bits) (held_at (with_held b place p.bits)) p.size place inside
      (λ k l ne. sym (mark-other b place p.bits in_words k ne))
      ∙ ap (λ (t : Bool). count (held_at (with_held b place p.bits)) p.size + bit t) was

  -- by pfn
  pub mark-this : (holds p (p.first + place) ≡ not b) × (holds (pool_with b place p) (p.first + place) ≡ b)
  unfolding pool_with
  mark-this =
      let at : p.first + place - p.first ≡ place = omega arith in (
        holds-inside p (p.first + place) (omega arith) (omega arith) ∙ ap (held_at p.bits) at ∙ was,
        holds-inside (pool_with b place p) (p.first + place) (omega arith) (omega arith)
            ∙ ap (held_at (with_held b place p.bits)) at ∙ mark-same b place p.bits in_words,
      )

  pub mark-rest : (pfn : ℕ) → pfn ≢ p.first + place → holds (pool_with b place p) pfn ≡ holds p pfn
  unfolding pool_with holds
  mark-rest pfn ne = by_first (leb p.first pfn) refl
    where
      by_first : (t : Bool) → leb p.first pfn ≡ t
          → t && ltb pfn (p.first + p.size) && held_at (with_held b place p.bits) (pfn - p.first)
          ≡ t && ltb pfn (p.first + p.size) && held_at p.bits (pfn - p.first)
      by_first true e =
          let low = leb-true p.first pfn e in
          ap (λ (x : Bool). ltb pfn (p.first + p.size) && x)
          (mark-other b place p.bits in_words (pfn - p.first) (λ (q : pfn - p.first ≡ place). ne (omega arith)))
      by_first false e = refl
