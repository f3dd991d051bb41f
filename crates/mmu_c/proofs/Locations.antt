-- The slots of a page's location, taken from the buffer's bytes and put back. Assumes nothing.
use Prim.Native.Nat.{ℕ, ◌+◌, ◌≤◌, ◌<◌}
use mathlib.Core.Path.{◌≡◌, sym, ◌∙◌, subst}
use mathlib.Core.Logic.{⊎_elim}
use mathlib.Core.Bool.{true}
use mathlib.Core.List.{List}
use native.Mathlib.Nat.{eq-or-lt_of_le, le_of_suc-le-suc}
use native.Mathlib.Numerals.{add-one}
use native.Mathlib.Omega.{arith}
use lib.ListN.{length, get_or, set, length-set}
use lib.Seq.{get_or-set_same, get_or-set_other}
use borrow.Author.Tests.{eq-eqb}
use Rattle.wire.specs.Wire.{element_at, decoded, AreBytes}
use Rattle.wire.proofs.Elements.{decoded-length, decoded-at}
use Rattle.entry.specs.Address.{vpn_of, slot_of}
use Rattle.entry.proofs.Fields.{slot_lt}
use Rattle.registers.specs.declared.Access.{Access}
use Rattle.registers.specs.declared.Registers.{Registers}
use Rattle.slots.specs.Buffer.{buffer_fits, slot_at}
use Rattle.slots.specs.Buffer.Buffer.{Wide}
use Rattle.tlb.proofs.Locations.{SameSlots}
use Rattle.access.specs.Translation.{Accepted, translate}
use Rattle.access.specs.declared.Translation.{Translation}
use Rattle.access.proofs.AccessLaws.{draw-lt}
use Rattle.access.proofs.Locations.{translate-same}
use Rattle.mmu_c.specs.Runs.{buffer_of}
use Rattle.mmu_c.specs.Location.{Fetched}

pub slot-inside : (n vpn slot : ℕ) → slot ≡ slot_of n vpn → n < 4 → slot < 64
slot-inside n vpn slot q l = subst (λ (s : ℕ). s < 64) (sym q) (slot_lt n vpn l)

apart : (j n vpn : ℕ) → (j ≡ n → ⊥) → slot_of j vpn ≡ slot_of n vpn → ⊥
unfolding slot_of
apart j n vpn d q = d (omega arith)

-- the loop that fetches: the slots of the sets below n have the bytes' numbers
pub record Fetching (bytes numbers : List ℕ) (vpn n : ℕ) : Type 0 where
  pub in-range : n ≤ 4
  pub are-bytes : 0 < n → AreBytes bytes
  pub long : length numbers ≡ 64
  pub each : (j : ℕ) → j < n → get_or numbers (slot_of j vpn) 0 ≡ element_at 8 bytes (slot_of j vpn)

module _ (bytes numbers : List ℕ) (vpn : ℕ) where
  pub fetch-none : length numbers ≡ 64 → Fetching bytes numbers vpn 0
  fetch-none e = record {
    in-range = omega arith;
    are-bytes = λ l. absurd (omega arith);
    long = e;
    each = λ j l. absurd (omega arith);
  }

  pub fetch-more : (n slot x : ℕ) → Fetching bytes numbers vpn n → n < 4 → slot ≡ slot_of n vpn → x ≡ element_at 8 bytes slot
      → AreBytes bytes → Fetching bytes (set numbers slot x) vpn (n + 1)
  fetch-more n slot x f l q e b = record {
    in-range = omega arith;
    are-bytes = λ k. b;
    long = length-set numbers slot x ∙ f.long;
    each = λ j k. ⊎_elim here (λ (m : j < n). there j m) (eq-or-lt_of_le (le_of_suc-le-suc (rw add-one at k)));
  }
    where
      here : {j : ℕ} → j ≡ n → get_or (set numbers slot x) (slot_of j vpn) 0 ≡ element_at 8 bytes (slot_of j vpn)
      here p =
          rw (p, ← q)
          (get_or-set_same numbers slot x 0 (subst (λ (k : ℕ). slot < k) (sym f.long) (slot-inside n vpn slot q l)) ∙ e)

      there : (j : ℕ) → j < n → get_or (set numbers slot x) (slot_of j vpn) 0 ≡ element_at 8 bytes (slot_of j vpn)
      there j m =
          get_or-set_other numbers slot (slot_of j vpn) x 0 (λ p. apart j n vpn (λ z. omega arith) (p ∙ q))
          ∙ f.each j m

  pub fetch-all : (n : ℕ) → Fetching bytes numbers vpn n → 4 ≤ n → Fetched bytes numbers vpn
  fetch-all n f l = record { are-bytes = f.are-bytes (omega arith); long = f.long; each = λ j k. f.each j (omega arith) }

-- the bytes' buffer fits, and so does a run of 64 numbers
pub buffer-fits : (bytes : List ℕ) → buffer_fits (buffer_of bytes) ≡ true
unfolding buffer_of buffer_fits
buffer-fits bytes = eq-eqb (length (decoded 8 bytes 64)) 64 (decoded-length 8 bytes 64)

pub run_fits : (numbers : List ℕ) → length numbers ≡ 64 → buffer_fits (Wide numbers) ≡ true
unfolding buffer_fits
run_fits numbers e = eq-eqb (length numbers) 64 e

module _ (bytes numbers : List ℕ) (vpn : ℕ) (f : Fetched bytes numbers vpn) where
  -- the run agrees with the bytes' buffer where it counts
  pub fetched-same : SameSlots (Wide numbers) (buffer_of bytes) vpn
  unfolding buffer_of slot_at
  fetched-same n l = rw (f.each n l, decoded-at 8 bytes 64 (slot_of n vpn) (slot_lt n vpn l))

-- what a raw access gives by the run
module _ (r : Registers) (bytes numbers : List ℕ) (a : Access) (vpn : ℕ) (vq : vpn ≡ vpn_of a.address) (f : Fetched bytes numbers vpn)
    (p : Accepted r (buffer_of bytes) a) where
  pub fetched-page : Fetched bytes numbers (vpn_of a.address)
  fetched-page = subst (λ (v : ℕ). Fetched bytes numbers v) vq f

  pub run-accepted : Accepted r (Wide numbers) a
  run-accepted =
      record { registers-fit = p.registers-fit; buffer-fits = run_fits numbers f.long; draw-fits = p.draw-fits }

  pub tried : (t : Translation) → t ≡ translate r (Wide numbers) a → t ≡ translate r (buffer_of bytes) a
  tried t q =
      q ∙ translate-same r (Wide numbers) (buffer_of bytes) a (draw-lt a.draw p.draw-fits) (fetched-same bytes numbers _ fetched-page)
