-- The fault value of an access that still misses after its walk: its kind, and where the walk stopped.
use Rattle.std.specs.Prelude.{ℕ, ◌+◌, ◌*◌, ◌%◌, ◌^◌, ◌≤◌, ◌≡◌, Bool, List, [], ◌∷◌}
use types.Run.{OneOf}
use Rattle.runs.specs.Bits.{bits, flag, bit}
use Rattle.page_table.specs.Walk.{walk_page}
use Rattle.page_table.specs.declared.Stop.{Stop}
use Rattle.page_table.specs.declared.Walk.{Walk}
use Rattle.page_table.specs.declared.Walk.TheVariants.{Leaf, Absent, Broken}

-- "the level in bits 8 to 11, and the global tree's part in bit 12, set when the deciding word stood there": of a level the four bits that
-- have room there, which for a walk's 1 to 3 are all
unfoldable pub stop_place : Stop → ℕ
stop_place s = s.level % 2 ^ 4 * 2 ^ 8 + bit s.global * 2 ^ 12

-- "a final miss is 8 when a leaf was found (valid 0, inv_exc off), 16 absent, 32 broken"; "Served faults 16 and 32 carry" where the walk
-- stopped, and 8 carries nothing
unfoldable pub walk_fault : Walk → ℕ
walk_fault (Leaf f) = 8
walk_fault (Absent s) = 16 + stop_place s
walk_fault (Broken s) = 32 + stop_place s

-- what a fault value says: its kind, at most 8 or 16 or 32, and of the last two the level and the tree
unfoldable pub fault_kind : (value : ℕ) → ℕ
fault_kind value = bits 7 0 value

unfoldable pub fault_level : (value : ℕ) → ℕ
fault_level value = bits 11 8 value

unfoldable pub fault_global : (value : ℕ) → Bool
fault_global value = flag 12 value

-- a value says of a stop its kind, its level and its tree
pub record Tells (value kind : ℕ) (s : Stop) : Type 0 where
  pub kind-is : fault_kind value ≡ kind
  pub level-is : fault_level value ≡ s.level
  pub tree_is : fault_global value ≡ s.global

-- the values of absent walks and of broken ones, seven in all
abbrev pub absent_faults : List ℕ
absent_faults = 0x110 ∷ 0x210 ∷ 0x310 ∷ []

abbrev pub broken_faults : List ℕ
broken_faults = 0x120 ∷ 0x220 ∷ 0x1120 ∷ 0x1220 ∷ []

-- the fault value of a walk tells its answer, and is 8 or one of the seven
unfoldable pub ToldByFault : Walk → Type 0
ToldByFault (Leaf f) = walk_fault (Leaf f) ≡ 8
ToldByFault (Absent s) = Tells (walk_fault (Absent s)) 16 s × OneOf absent_faults (walk_fault (Absent s))
ToldByFault (Broken s) = Tells (walk_fault (Broken s)) 32 s × OneOf broken_faults (walk_fault (Broken s))

-- so of every walk, whatever the words
abbrev pub WalkTold : Type 0
WalkTold = (words : List ℕ) (id vpn : ℕ) → ToldByFault (walk_page words id vpn)

-- The fault values that an access can have which this walk decides: where it found a leaf an exception's, from `least` to 8; else the
-- walk's own, which is one of the seven.
unfoldable pub PossibleFault : (least : ℕ) (found : Walk) (value : ℕ) → Type 0
PossibleFault least (Leaf f) value = (least ≤ value) × (value ≤ 8)
PossibleFault least (Absent s) value = (value ≡ walk_fault (Absent s)) × OneOf absent_faults value
PossibleFault least (Broken s) value = (value ≡ walk_fault (Broken s)) × OneOf broken_faults value
