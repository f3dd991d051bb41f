-- The account of the slots: the fields that document 01's loads and sweeps leave in each slot, over the reader's words and settings. It
-- has no numbers of 64 bits, no registers and no answers.
use Rattle.std.specs.Prelude.{ℕ, Bool, cond, not, ◌&&◌, List, eqb}
use Rattle.runs.specs.Counts.{count, lowest}
use Rattle.entry.specs.Address.{vpn_of, slot_of, set_of}
use Rattle.entry.specs.Empty.{empty_fields}
use Rattle.entry.specs.declared.Entry.{Entry}
use Rattle.registers.specs.declared.Access.{Access}
use Rattle.page_table.specs.declared.Walk.{Walk}
use Rattle.page_table.specs.declared.Walk.TheVariants.{Leaf, Absent, Broken}
use Rattle.tlb.specs.Hit.{matches_page, hit}
use Rattle.access.specs.Segments.{in_linear_segment}
use Rattle.access.specs.Exceptions.{inv_exc}
use Rattle.access.specs.Translation.{is_set}
use Rattle.store.specs.Leaf.{leaf_entry}
use Rattle.store.specs.Sweep.{kept}
use Rattle.sequence.specs.Reader.{Settings}

-- the entry in each slot
abbrev pub Slots : Type 0
Slots = (slot : ℕ) → Entry

-- "begun with every slot empty"
unfoldable pub start_slots : Slots
start_slots slot = empty_fields (set_of slot)

unfoldable pub with_entry : Slots → (slot : ℕ) → Entry → Slots
with_entry slots slot f other = cond (eqb other slot) f (slots other)

-- a first try misses: enabled, not linear, and none of the page's four slots hits
unfoldable pub try_misses : Settings → Slots → Access → Bool
try_misses s slots a =
    is_set s.enable
    && not (in_linear_segment s.kseg a)
    && eqb (count (λ set. hit (inv_exc s.ctrl) s.context (vpn_of a.address) (slots (slot_of set (vpn_of a.address)))) 4) 0

-- the load: the lowest of the page's four slots that is the page's already, else the draw's
unfoldable pub slot_to_load : Settings → Slots → Access → ℕ
slot_to_load s slots a =
    slot_of
    (lowest (λ set. matches_page s.context (vpn_of a.address) (slots (slot_of set (vpn_of a.address)))) 4 a.draw)
    (vpn_of a.address)

-- it gets the leaf
unfoldable pub slots_loaded : Walk → Settings → Slots → Access → Slots
slots_loaded (Leaf f) s slots a = with_entry slots (slot_to_load s slots a) (leaf_entry s.context (vpn_of a.address) f)
slots_loaded (Absent t) s slots a = slots
slots_loaded (Broken t) s slots a = slots

-- the sweep: a slot that is not kept becomes empty
unfoldable pub swept_entry : (words : List ℕ) (slot : ℕ) → Entry → Entry
swept_entry words slot f = cond (kept words slot f) f (empty_fields (set_of slot))

unfoldable pub slots_swept : (words : List ℕ) → Slots → Slots
slots_swept words slots slot = swept_entry words slot (slots slot)

-- how many it empties
unfoldable pub slots_emptied : (words : List ℕ) → Slots → ℕ
slots_emptied words slots = count (λ slot. not (kept words slot (slots slot))) 64
