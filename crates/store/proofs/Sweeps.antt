-- What a sweep leaves in each slot. Assumes nothing.
use Prim.Native.Nat.{ℕ, zero, suc, ◌/◌, ◌≤◌, ◌<◌}
use mathlib.Core.Path.{◌≡◌, refl, ap, ◌∙◌}
use mathlib.Core.Logic.{◌≢◌, ⊎_elim}
use mathlib.Core.Bool.{Bool, true, false, cond}
use mathlib.Core.List.{List}
use native.Mathlib.Nat.{mod-eq_of_lt, not-suc-le-zero, eq-or-lt_of_le, le_of_suc-le-suc, ne_of_lt}
use native.Mathlib.Omega.{arith}
use Rattle.runs.proofs.Bools.{or_left}
use Rattle.entry.specs.Address.{set_of}
use Rattle.entry.specs.Entry.{unpack}
use Rattle.entry.specs.Empty.{empty_fields, empty_entry}
use Rattle.entry.proofs.Fields.{empty-fits, empty-lt}
use Rattle.entry.proofs.RoundTrips.{unpack-pack}
use Rattle.entry.proofs.Same.{same_self}
use Rattle.slots.specs.Buffer.{Buffer, buffer_fits, slot_at, with_slot}
use Rattle.slots.proofs.Slots.{at_same, at_other, fits-put}
use Rattle.store.specs.Sweep.{is_empty, kept, kept_at, settled, swept_slot, swept_first, swept}

module _ (words : List ℕ) where
  one-fits : (slot : ℕ) (b : Buffer) → buffer_fits (swept_slot words slot b) ≡ buffer_fits b
  unfolding swept_slot settled
  one-fits slot b = go (kept_at words b slot)
    where
      go : (k : Bool) → buffer_fits (cond k b (with_slot b slot (empty_entry (set_of slot)))) ≡ buffer_fits b
      go true = refl
      go false = fits-put b slot (empty_entry (set_of slot))

  one-other : (slot other : ℕ) (b : Buffer) → other ≢ slot → slot_at (swept_slot words slot b) other ≡ slot_at b other
  unfolding swept_slot settled
  one-other slot other b d = go (kept_at words b slot)
    where
      go : (k : Bool) → slot_at (cond k b (with_slot b slot (empty_entry (set_of slot)))) other ≡ slot_at b other
      go true = refl
      go false = at_other b slot other (empty_entry (set_of slot)) d

  one_same : (slot : ℕ) (b : Buffer) → buffer_fits b ≡ true → slot < 64
      → slot_at (swept_slot words slot b) slot ≡ cond (kept_at words b slot) (slot_at b slot) (empty_entry (set_of slot))
  unfolding swept_slot settled set_of
  one_same slot b f l = go (kept_at words b slot)
    where
      go : (k : Bool) → slot_at (cond k b (with_slot b slot (empty_entry (slot / 16)))) slot ≡ cond k (slot_at b slot) (empty_entry (slot / 16))
      go true = refl
      go false = at_same b slot (empty_entry (slot / 16)) f l ∙ mod-eq_of_lt (empty-lt (slot / 16) (omega arith))

  pub first_fits : (n : ℕ) (b : Buffer) → buffer_fits (swept_first words n b) ≡ buffer_fits b
  unfolding swept_first
  first_fits zero b = refl
  first_fits (suc n) b = one-fits n (swept_first words n b) ∙ first_fits n b

  -- a slot that the sweep has not reached, and one that it has passed
  pub not-reached : (n slot : ℕ) (b : Buffer) → n ≤ slot → slot_at (swept_first words n b) slot ≡ slot_at b slot
  unfolding swept_first
  not-reached zero slot b l = refl
  not-reached (suc n) slot b l =
      one-other n slot (swept_first words n b) (λ (e : slot ≡ n). omega arith) ∙ not-reached n slot b (omega arith)

  pub kept-not-reached : (n slot : ℕ) (b : Buffer) → n ≤ slot → kept_at words (swept_first words n b) slot ≡ kept_at words b slot
  unfolding kept_at
  kept-not-reached n slot b l = ap (λ (e : ℕ). kept words slot (unpack e)) (not-reached n slot b l)

  passed : (n slot : ℕ) (b : Buffer) → buffer_fits b ≡ true → n ≤ 64 → slot < n
      → slot_at (swept_first words n b) slot ≡ cond (kept_at words b slot) (slot_at b slot) (empty_entry (set_of slot))
  unfolding swept_first
  passed zero slot b f m l = absurd (not-suc-le-zero l)
  passed (suc n) slot b f m l = ⊎_elim last (λ k. earlier k (passed n slot b f (omega arith) k)) (eq-or-lt_of_le (le_of_suc-le-suc l))
    where
      Goal : ℕ → ℕ → Type 0
      Goal s x = x ≡ cond (kept_at words b s) (slot_at b s) (empty_entry (set_of s))

      here : Goal n (slot_at (swept_slot words n (swept_first words n b)) n)
      here =
          one_same n (swept_first words n b) (first_fits n b ∙ f) (omega arith)
          ∙ rw (kept-not-reached n n b (omega arith), not-reached n n b (omega arith)) refl

      last : slot ≡ n → Goal slot (slot_at (swept_slot words n (swept_first words n b)) slot)
      last e = rw e here

      earlier : slot < n → Goal slot (slot_at (swept_first words n b) slot)
          → Goal slot (slot_at (swept_slot words n (swept_first words n b)) slot)
      earlier k ih = one-other n slot (swept_first words n b) (λ e. ne_of_lt k e) ∙ ih

  pub swept-fits : (b : Buffer) → buffer_fits (swept words b) ≡ buffer_fits b
  unfolding swept
  swept-fits b = first_fits 64 b

  pub swept_at : (b : Buffer) (slot : ℕ) → buffer_fits b ≡ true → slot < 64
      → slot_at (swept words b) slot ≡ cond (kept_at words b slot) (slot_at b slot) (empty_entry (set_of slot))
  unfolding swept
  swept_at b slot f l = passed 64 slot b f (omega arith) l

-- an empty slot is kept
pub empty-is : (slot : ℕ) → is_empty slot (empty_fields (set_of slot)) ≡ true
unfolding is_empty
empty-is slot = same_self (empty_fields (set_of slot))

pub empty-kept : (words : List ℕ) (slot : ℕ) → kept words slot (empty_fields (set_of slot)) ≡ true
unfolding kept
empty-kept words slot = or_left _ (empty-is slot)

pub empty-unpacked : (slot : ℕ) → slot < 64 → unpack (empty_entry (set_of slot)) ≡ empty_fields (set_of slot)
unfolding empty_entry set_of
empty-unpacked slot l = unpack-pack (empty_fields (slot / 16)) (empty-fits (slot / 16) (omega arith))

-- so after a sweep every slot is
pub swept-backed : (words : List ℕ) (b : Buffer) (slot : ℕ) → buffer_fits b ≡ true → slot < 64 → kept_at words (swept words b) slot ≡ true
unfolding kept_at
swept-backed words b slot f l =
    ap (λ (e : ℕ). kept words slot (unpack e)) (swept_at words b slot f l) ∙ go (kept words slot (unpack (slot_at b slot))) refl
  where
    go : (t : Bool) → kept words slot (unpack (slot_at b slot)) ≡ t
        → kept words slot (unpack (cond t (slot_at b slot) (empty_entry (set_of slot)))) ≡ true
    go true h = h
    go false h = ap (kept words slot) (empty-unpacked slot l) ∙ empty-kept words slot
