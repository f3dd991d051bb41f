-- The account of the slots follows the buffer: at a first try, a load, a sweep, and at the start. Assumes nothing.
use Prim.Native.Nat.{ℕ, ◌≤◌, ◌<◌}
use mathlib.Core.Path.{◌≡◌, refl, sym, ap, ◌∙◌}
use mathlib.Core.Bool.{Bool, true, false, cond, not, ◌&&◌}
use mathlib.Core.List.{List}
use lib.Dec.{eqb}
use Rattle.runs.proofs.Counts.{count_same, lowest-same}
use Rattle.entry.specs.Address.{vpn_of, slot_of}
use Rattle.entry.specs.Entry.{unpack}
use Rattle.entry.proofs.Fields.{vpn-lt, slot_lt}
use Rattle.entry.specs.declared.Entry.{Entry}
use Rattle.registers.specs.declared.Access.{Access}
use Rattle.page_table.specs.declared.Walk.{Walk}
use Rattle.page_table.specs.declared.Walk.TheVariants.{Leaf, Absent, Broken}
use Rattle.slots.specs.Buffer.{Buffer, buffer_fits, slot_at}
use Rattle.slots.specs.Start.{start_buffer}
use Rattle.tlb.specs.Hit.{matches_page, hit}
use Rattle.tlb.specs.Search.{fields_at, set_hits, hit_count}
use Rattle.tlb.specs.Load.{set_matches, load_slot}
use Rattle.access.specs.Segments.{in_linear_segment}
use Rattle.access.specs.Exceptions.{inv_exc}
use Rattle.access.specs.Translation.{is_set}
use Rattle.store.specs.Leaf.{leaf_entry}
use Rattle.store.specs.Machine.{Machine}
use Rattle.store.specs.Sweep.{kept, kept_at, swept, emptied}
use Rattle.mmu.specs.ServedAccess.{missed, first_try, walk_for, buffer_after_miss, access_buffer}
use Rattle.sequence.specs.Reader.{settings_of}
use Rattle.sequence.specs.Account.{Slots, start_slots, with_entry, try_misses, slot_to_load, slots_loaded, swept_entry, slots_swept}
use Rattle.sequence.specs.Account.{slots_emptied}
use Rattle.sequence.proofs.Invariant.{Inv, load_fields, swept-fields, start-fields}
use Rattle.sequence.proofs.Tries.{try-missed}
use Rattle.sequence.proofs.Serving.{loaded-is}

-- each slot's fields are the account's
abbrev pub SameSlots : Buffer → Slots → Type 0
SameSlots b slots = (slot : ℕ) → slot < 64 → unpack (slot_at b slot) ≡ slots slot

-- ---- a first try

module _ (b : Buffer) (slots : Slots) (same : SameSlots b slots) (vpn : ℕ) where
  in-set : (set : ℕ) → set < 4 → slots (slot_of set vpn) ≡ fields_at b vpn set
  unfolding fields_at
  in-set set l = sym (same (slot_of set vpn) (slot_lt set vpn l))

-- ---- a first try, and the slot of a load

module _ (m : Machine) (a : Access) (slots : Slots) (same : SameSlots m.buffer slots) where
  abbrev vpn : ℕ
  vpn = vpn_of a.address

  pub misses-same : is_set m.registers.test ≡ false → missed (first_try m a) ≡ try_misses (settings_of m.registers) slots a
  unfolding try_misses settings_of first_try hit_count set_hits
  misses-same te =
      try-missed m.registers m.buffer a te
      ∙ ap (λ (n : ℕ). is_set m.registers.enable && not (in_linear_segment m.registers.kseg a) && eqb n 0)
      (count_same _ _ 4
      (λ set l. ap (hit (inv_exc m.registers.ctrl) m.registers.context vpn) (sym (in-set m.buffer slots same vpn set l))))

  slot_same : load_slot m.buffer m.registers.context vpn a.draw ≡ slot_to_load (settings_of m.registers) slots a
  unfolding slot_to_load settings_of load_slot set_matches
  slot_same =
      ap (λ (n : ℕ). slot_of n vpn)
      (lowest-same _ _ 4 a.draw (λ set l. ap (matches_page m.registers.context vpn) (sym (in-set m.buffer slots same vpn set l))))

  -- ---- a load

  module _ (inv : Inv m.words m.buffer) (fits : buffer_fits m.buffer ≡ true) (lc : m.registers.context ≤ 62)
      (ld : a.draw < 4) where
    pub load_same : (x : Walk) → walk_for m a ≡ x
        → SameSlots (buffer_after_miss x (first_try m a).registers m.buffer a) (slots_loaded x (settings_of m.registers) slots a)
    unfolding buffer_after_miss slots_loaded with_entry walk_for settings_of
    load_same (Leaf f) e slot l =
        ap (λ (b : Buffer). unpack (slot_at b slot)) (loaded-is m a f)
        ∙ load_fields m.words m.buffer inv fits m.registers.context vpn a.draw f lc (vpn-lt a.address) ld e slot
        ∙ ap (λ (t : ℕ). cond (eqb slot t) (leaf_entry m.registers.context vpn f) (unpack (slot_at m.buffer slot))) slot_same
        ∙ ap (λ (g : Entry). cond (eqb slot (slot_to_load (settings_of m.registers) slots a)) (leaf_entry m.registers.context vpn f) g)
        (same slot l)
    load_same (Absent s) e slot l = same slot l
    load_same (Broken s) e slot l = same slot l

    pub access-same : is_set m.registers.test ≡ false
        → SameSlots (access_buffer m a)
        (cond (try_misses (settings_of m.registers) slots a) (slots_loaded (walk_for m a) (settings_of m.registers) slots a) slots)
    unfolding access_buffer
    access-same te = rw (← misses-same te) (go (missed (first_try m a)))
      where
        go : (t : Bool) → SameSlots
            (cond t (buffer_after_miss (walk_for m a) (first_try m a).registers m.buffer a) m.buffer)
            (cond t (slots_loaded (walk_for m a) (settings_of m.registers) slots a) slots)
        go true = load_same (walk_for m a) refl
        go false = same

-- ---- a sweep

pub sweep-same : (words : List ℕ) (b : Buffer) (slots : Slots) → buffer_fits b ≡ true → SameSlots b slots
    → SameSlots (swept words b) (slots_swept words slots)
unfolding slots_swept
sweep-same words b slots fits same slot l = swept-fields words b fits slot l ∙ ap (swept_entry words slot) (same slot l)

pub emptied-same : (words : List ℕ) (b : Buffer) (slots : Slots) → SameSlots b slots → emptied words b ≡ slots_emptied words slots
unfolding emptied slots_emptied kept_at
emptied-same words b slots same = count_same _ _ 64 (λ slot l. ap (λ (f : Entry). not (kept words slot f)) (same slot l))

-- ---- the start

pub start-same : (b : Buffer) → buffer_fits b ≡ true → SameSlots (start_buffer b) start_slots
unfolding start_slots
start-same b fits slot l = start-fields b slot fits l
