-- Only the four slots of a page's location count: where two buffers agree in them, search and load give the same. Assumes nothing.
use Prim.Native.Nat.{ℕ, ◌<◌}
use mathlib.Core.Path.{◌≡◌, sym, ap, ◌∙◌}
use mathlib.Core.Bool.{Bool, true}
use native.Mathlib.Decide.{ℕ_discrete}
use Rattle.runs.proofs.Counts.{count_same, lowest-same}
use Rattle.entry.specs.Address.{slot_of}
use Rattle.entry.specs.Entry.{unpack}
use Rattle.slots.specs.Buffer.{Buffer, buffer_fits, slot_at}
use Rattle.tlb.specs.Hit.{matches_page, hit}
use Rattle.tlb.specs.Search.{fields_at, set_hits, hit_count, hit_set}
use Rattle.tlb.specs.Load.{set_matches, load_slot, loaded_buffer}
use Rattle.tlb.proofs.Loads.{load-there, load-elsewhere}

-- two buffers agree in the slots of a page's location
abbrev pub SameSlots : (b c : Buffer) (vpn : ℕ) → Type 0
SameSlots b c vpn = (set : ℕ) → set < 4 → slot_at b (slot_of set vpn) ≡ slot_at c (slot_of set vpn)

module _ (b c : Buffer) (vpn : ℕ) (same : SameSlots b c vpn) where
  pub fields-same : (set : ℕ) → set < 4 → fields_at b vpn set ≡ fields_at c vpn set
  unfolding fields_at
  fields-same set l = ap unpack (same set l)

  pub hit-count-same : (inv-exc : Bool) (context : ℕ) → hit_count b inv-exc context vpn ≡ hit_count c inv-exc context vpn
  unfolding hit_count set_hits
  hit-count-same inv-exc context =
      count_same (set_hits b inv-exc context vpn) (set_hits c inv-exc context vpn) 4
      (λ set l. ap (hit inv-exc context vpn) (fields-same set l))

  pub hit-set-same : (inv-exc : Bool) (context otherwise : ℕ)
      → hit_set b inv-exc context vpn otherwise ≡ hit_set c inv-exc context vpn otherwise
  unfolding hit_set set_hits
  hit-set-same inv-exc context otherwise =
      lowest-same (set_hits b inv-exc context vpn) (set_hits c inv-exc context vpn) 4 otherwise
      (λ set l. ap (hit inv-exc context vpn) (fields-same set l))

  pub load-slot-same : (context draw : ℕ) → load_slot b context vpn draw ≡ load_slot c context vpn draw
  unfolding load_slot set_matches
  load-slot-same context draw =
      ap (λ (set : ℕ). slot_of set vpn)
      (lowest-same (set_matches b context vpn) (set_matches c context vpn) 4 draw
      (λ set l. ap (matches_page context vpn) (fields-same set l)))

  -- both buffers agree after a load too
  pub loaded-same : (context draw e : ℕ) → buffer_fits b ≡ true → buffer_fits c ≡ true → draw < 4
      → SameSlots (loaded_buffer b context vpn draw e) (loaded_buffer c context vpn draw e) vpn
  loaded-same context draw e fb fc l set k =
      elim (ℕ_discrete (slot_of set vpn) (load_slot b context vpn draw)) [ yes q ↦ here q | no d ↦ there d ]
    where
      here : slot_of set vpn ≡ load_slot b context vpn draw
          → slot_at (loaded_buffer b context vpn draw e) (slot_of set vpn) ≡ slot_at (loaded_buffer c context vpn draw e) (slot_of set vpn)
      here q =
          ap (slot_at (loaded_buffer b context vpn draw e)) q
          ∙ load-there b context vpn draw e fb l
          ∙ sym (ap (slot_at (loaded_buffer c context vpn draw e)) (q ∙ load-slot-same context draw) ∙ load-there c context vpn draw e fc l)

      there : (slot_of set vpn ≡ load_slot b context vpn draw → ⊥)
          → slot_at (loaded_buffer b context vpn draw e) (slot_of set vpn) ≡ slot_at (loaded_buffer c context vpn draw e) (slot_of set vpn)
      there d =
          load-elsewhere b context vpn draw e (slot_of set vpn) d
          ∙ same set k
          ∙ sym (load-elsewhere c context vpn draw e (slot_of set vpn) (λ q. d (q ∙ sym (load-slot-same context draw))))
