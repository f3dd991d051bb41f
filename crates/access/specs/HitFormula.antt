-- The reference's formula in a raw access: where each of its names is found (table 4-2).
use Rattle.std.specs.Prelude.{ℕ, ◌+◌, ◌*◌, ◌≡◌, Bool}
use Rattle.runs.specs.Bits.{bits, flag}
use Rattle.runs.specs.Counts.{count, lowest}
use Rattle.entry.specs.Entry.{unpack}
use Rattle.registers.specs.declared.Access.{Access}
use Rattle.registers.specs.declared.Registers.{Registers}
use Rattle.slots.specs.Buffer.{Buffer, slot_at}
use Rattle.tlb.specs.Formula.{formula_of}
use Rattle.access.specs.Translation.{by_hit_count, page_mapped}
use Rattle.access.specs.declared.Translation.{Translation}

-- the entry that an access looks at in a set: its location is address bits 16 to 13
unfoldable pub entry_of : Buffer → Access → (set : ℕ) → ℕ
entry_of b a set = slot_at b (16 * set + bits 16 13 a.address)

-- an access hits in a set: inv_excp is bit 2 of R_MMU_CTRL, cpu_vpn is address bits 31 to 17, context_pid is R_MMU_CONTEXT, and the rest
-- are fields of the entry
unfoldable pub hits_by_formula : Registers → Buffer → Access → (set : ℕ) → Bool
hits_by_formula r b a set = formula_of (flag 2 r.ctrl) (bits 31 17 a.address) r.context (entry_of b a set)

-- Where the buffer decides, an access goes by how many of the four sets hit by the formula, and by the entry of the lowest that does.
abbrev pub MappedByFormula : Type 0
MappedByFormula = (r : Registers) (b : Buffer) (a : Access) (t : Translation) → t ≡ page_mapped r b a
    → let set = lowest (hits_by_formula r b a) 4 a.draw in
    t ≡ by_hit_count (count (hits_by_formula r b a) 4) r a set (unpack (entry_of b a set))
