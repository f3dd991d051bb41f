-- The sweep: after the table words have changed, every slot is judged anew.
use Rattle.std.specs.Prelude.{ℕ, zero, suc, ◌≡◌, Bool, false, cond, not, ◌&&◌, ◌||◌, List, leb}
use Rattle.runs.specs.Bits.{bit}
use Rattle.runs.specs.Counts.{count}
use Rattle.entry.specs.Address.{set_of, vpn_at}
use Rattle.entry.specs.Entry.{unpack, same_low, same_entry}
use Rattle.entry.specs.Empty.{empty_fields, empty_entry}
use Rattle.entry.specs.declared.Entry.{Entry}
use Rattle.page_table.specs.Walk.{walk_page}
use Rattle.page_table.specs.declared.Walk.{Walk}
use Rattle.page_table.specs.declared.Walk.TheVariants.{Leaf, Absent, Broken}
use Rattle.slots.specs.Buffer.{Buffer, slot_at, with_slot}
use Rattle.store.specs.Leaf.{leaf_entry}

-- the slot holds its own set's empty entry
unfoldable pub is_empty : (slot : ℕ) → Entry → Bool
is_empty slot f = same_entry f (empty_fields (set_of slot))

-- "gives a leaf with the same global, valid, kernel, we and pfn"
unfoldable pub agrees_with_leaf : Walk → (vpn : ℕ) → Entry → Bool
agrees_with_leaf (Leaf found) vpn f = same_low f (leaf_entry f.page_id vpn found)
agrees_with_leaf (Absent s) vpn f = false
agrees_with_leaf (Broken s) vpn f = false

-- "its page_id is at most 62 and the walk of its vpn under that page_id now gives" such a leaf
unfoldable pub agrees_with_tables : (words : List ℕ) (slot : ℕ) → Entry → Bool
agrees_with_tables words slot f =
    leb f.page_id 62 && agrees_with_leaf (walk_page words f.page_id (vpn_at slot f.vpn15)) (vpn_at slot f.vpn15) f

-- "A slot is kept if it is empty, or if" it agrees with the tables; only the 44 bits are judged
unfoldable pub kept : (words : List ℕ) (slot : ℕ) → Entry → Bool
kept words slot f = is_empty slot f || agrees_with_tables words slot f

unfoldable pub kept_at : (words : List ℕ) → Buffer → (slot : ℕ) → Bool
kept_at words b slot = kept words slot (unpack (slot_at b slot))

-- "All others become empty"; a kept slot's number stays, high bits too
unfoldable pub settled : (keep : Bool) (slot : ℕ) → Buffer → Buffer
settled keep slot b = cond keep b (with_slot b slot (empty_entry (set_of slot)))

-- a slot that is not kept counts once
unfoldable pub goes : (keep : Bool) → ℕ
goes keep = bit (not keep)

unfoldable pub swept_slot : (words : List ℕ) (slot : ℕ) → Buffer → Buffer
swept_slot words slot b = settled (kept_at words b slot) slot b

-- the first n slots are swept
unfoldable pub swept_first : (words : List ℕ) (n : ℕ) → Buffer → Buffer
swept_first words zero b = b
swept_first words (suc n) b = swept_slot words n (swept_first words n b)

unfoldable pub swept : (words : List ℕ) → Buffer → Buffer
swept words b = swept_first words 64 b

-- "the number of emptied slots is the answer"
unfoldable pub emptied : (words : List ℕ) → Buffer → ℕ
emptied words b = count (λ slot. not (kept_at words b slot)) 64

-- what a sweep answers and leaves
pub record SweepGives (words : List ℕ) (b after : Buffer) (number : ℕ) : Type 0 where
  pub number_is : number ≡ emptied words b
  pub buffer-is : after ≡ swept words b
