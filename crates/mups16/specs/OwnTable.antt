-- "the address and faults of a mapping under one table index never depend on the entries of another table, and in boot mode on no entry"
use Rattle.std.specs.Prelude.{ℕ, ◌+◌, ◌*◌, ◌<◌, ◌≡◌, Bool, true, List, length, get_or}
use Rattle.runs.specs.Bits.{bits}
use Rattle.mups16.specs.Map.{MapGives}
use Rattle.mups16.specs.declared.State.{State}
use Rattle.mups16.specs.declared.MapReply.{MapReply}

-- two runs agree in bits 18 to 0 of each of the 256 entries of a table
unfoldable pub SameTable : (index : ℕ) (a b : List ℕ) → Type 0
SameTable index a b =
    (page : ℕ) → page < 256 → bits 18 0 (get_or a (256 * index + page) 0) ≡ bits 18 0 (get_or b (256 * index + page) 0)

-- every map gives the same over both runs: address, faults and the state after it
unfoldable pub MapsAlike : (a b : List ℕ) → State → Type 0
MapsAlike a b s =
    (virtual : ℕ) (user write : Bool) (r q : MapReply) → MapGives a s virtual user write r → MapGives b s virtual user write q → r ≡ q

unfoldable pub OwnTable : Type 0
OwnTable =
    (s : State) (a b : List ℕ) → length a ≡ 8192 → length b ≡ 8192 → SameTable (bits 4 0 s.table_index) a b → MapsAlike a b s

unfoldable pub BootNone : Type 0
BootNone = (s : State) (a b : List ℕ) → length a ≡ 8192 → length b ≡ 8192 → s.boot_mode ≡ true → MapsAlike a b s
