-- What a load leaves: the stored entry at its slot, every other slot as it was. Assumes nothing.
use Prim.Native.Nat.{ℕ, ◌%◌, ◌^◌, ◌<◌}
use mathlib.Core.Path.{◌≡◌, ap, ◌∙◌, fun_ext}
use mathlib.Core.Logic.{◌≢◌}
use mathlib.Core.Bool.{Bool, true}
use Rattle.runs.specs.Counts.{lowest}
use Rattle.runs.proofs.Counts.{lowest-lt}
use Rattle.entry.specs.Address.{slot_of}
use Rattle.entry.proofs.Fields.{slot_lt}
use Rattle.slots.specs.Buffer.{Buffer, buffer_fits, slot_at, with_slot}
use Rattle.slots.proofs.Slots.{at_same, at_other, fits-put}
use Rattle.tlb.specs.Search.{fields_at, set_hits, hit_set, Searched}
use Rattle.tlb.specs.Load.{set_matches, load_slot, loaded_buffer, LoadGives}
use Rattle.tlb.proofs.HitLaws.{hit-inv}

-- the load's search is the hit search with inv_exc on, which falls back on the draw
matches-hits : (b : Buffer) (context vpn : ℕ) → ◌≡◌ {A = ℕ → Bool} (set_hits b true context vpn) (set_matches b context vpn)
unfolding set_hits set_matches
matches-hits b context vpn = fun_ext (λ set. hit-inv context vpn (fields_at b vpn set))

pub load-search : (b : Buffer) (context vpn draw : ℕ) → slot_of (hit_set b true context vpn draw) vpn ≡ load_slot b context vpn draw
unfolding load_slot hit_set
load-search b context vpn draw = ap (λ (p : ℕ → Bool). slot_of (lowest p 4 draw) vpn) (matches-hits b context vpn)

pub load-slot-lt : (b : Buffer) (context vpn draw : ℕ) → draw < 4 → load_slot b context vpn draw < 64
unfolding load_slot
load-slot-lt b context vpn draw l =
    slot_lt (lowest (set_matches b context vpn) 4 draw) vpn (lowest-lt (set_matches b context vpn) 4 draw l)

-- what the code stores and answers, by its search
pub load_gives : (b after : Buffer) (context vpn draw e count set slot : ℕ) → Searched b true context vpn draw count set
    → slot ≡ slot_of set vpn
    → after ≡ with_slot b slot e → LoadGives b after context vpn draw e slot
unfolding loaded_buffer
load_gives b after context vpn draw e count set slot found sq bq =
    let there = sq ∙ ap (λ (k : ℕ). slot_of k vpn) found.set_is ∙ load-search b context vpn draw in
    record { slot_is = there; buffer-is = bq ∙ ap (λ (k : ℕ). with_slot b k e) there }

module _ (b : Buffer) (context vpn draw e : ℕ) where
  pub load_fits : buffer_fits (loaded_buffer b context vpn draw e) ≡ buffer_fits b
  unfolding loaded_buffer
  load_fits = fits-put b (load_slot b context vpn draw) e

  pub load-there : buffer_fits b ≡ true → draw < 4 → slot_at (loaded_buffer b context vpn draw e) (load_slot b context vpn draw) ≡ e % 2 ^ 44
  unfolding loaded_buffer
  load-there f l = at_same b (load_slot b context vpn draw) e f (load-slot-lt b context vpn draw l)

  pub load-elsewhere : (slot : ℕ) → slot ≢ load_slot b context vpn draw → slot_at (loaded_buffer b context vpn draw e) slot ≡ slot_at b slot
  unfolding loaded_buffer
  load-elsewhere slot d = at_other b (load_slot b context vpn draw) slot e d
