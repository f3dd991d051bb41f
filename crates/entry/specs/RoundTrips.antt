-- "Packing an entry and taking it apart undo each other for every value of the fields" (demand 2).
use Rattle.std.specs.Prelude.{ℕ, ◌%◌, ◌^◌, ◌≡◌}
use Rattle.entry.specs.Entry.{unpack, pack, EntryFits}
use Rattle.entry.specs.declared.Entry.{Entry}

-- fields within their bits, packed and taken apart
abbrev pub UnpackPack : Type 0
UnpackPack = (f : Entry) → EntryFits f → unpack (pack f) ≡ f

-- any number, taken apart and packed: its low 44 bits
abbrev pub PackUnpack : Type 0
PackUnpack = (e : ℕ) → pack (unpack e) ≡ e % 2 ^ 44
