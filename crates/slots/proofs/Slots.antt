-- One slot read after one is replaced: all that other proofs know of the buffer's layout. Assumes nothing.
use Prim.Native.Nat.{ℕ, ◌%◌, ◌^◌, ◌<◌}
use mathlib.Core.Path.{◌≡◌}
use mathlib.Core.Logic.{◌≢◌}
use mathlib.Core.Bool.{true}
use mathlib.Core.List.{List}
use native.Mathlib.Omega.{arith}
use lib.ListN.{length, length-set}
use lib.Seq.{get_or-set_same, get_or-set_other}
use borrow.Author.Tests.{eqb-true}
use Rattle.slots.specs.Buffer.{Buffer, buffer_fits, slot_at, with_slot}
use Rattle.slots.specs.Buffer.Buffer.{Wide}

pub fits-length : (numbers : List ℕ) → buffer_fits (Wide numbers) ≡ true → length numbers ≡ 64
unfolding buffer_fits
fits-length numbers h = eqb-true (length numbers) 64 h

pub slot_lt : (b : Buffer) (slot : ℕ) → slot_at b slot < 2 ^ 44
unfolding slot_at
slot_lt (Wide numbers) slot = omega arith

pub at_same : (b : Buffer) (slot e : ℕ) → buffer_fits b ≡ true → slot < 64 → slot_at (with_slot b slot e) slot ≡ e % 2 ^ 44
unfolding slot_at with_slot
at_same (Wide numbers) slot e f l =
    let n = fits-length numbers f in
    rw (get_or-set_same numbers slot (e % 2 ^ 44) 0 (omega arith)) (omega arith)

pub at_other : (b : Buffer) (slot other e : ℕ) → other ≢ slot → slot_at (with_slot b slot e) other ≡ slot_at b other
unfolding slot_at with_slot
at_other (Wide numbers) slot other e d = rw (get_or-set_other numbers slot other (e % 2 ^ 44) 0 d)

pub fits-put : (b : Buffer) (slot e : ℕ) → buffer_fits (with_slot b slot e) ≡ buffer_fits b
unfolding buffer_fits with_slot
fits-put (Wide numbers) slot e = rw length-set
