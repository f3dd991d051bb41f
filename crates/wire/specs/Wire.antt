-- Numbers as bytes, most significant first.
use Rattle.std.specs.Prelude.{ℕ, zero, suc, ◌+◌, ◌*◌, ◌/◌, ◌%◌, ◌<◌, List, [], ◌∷◌, ◌++◌, length, get_or, take, drop}
use Rattle.runs.specs.Pieces.{tabulate, flat}

-- the lowest w bytes of a number: those of x div 256, then the least significant
unfoldable pub bytes_of : (w x : ℕ) → List ℕ
bytes_of zero x = []
bytes_of (suc w) x = bytes_of w (x / 256) ++ (x % 256 ∷ [])

-- the number whose w bytes start at an index
unfoldable pub number_at : (w : ℕ) (bytes : List ℕ) (at : ℕ) → ℕ
number_at zero bytes at = 0
number_at (suc w) bytes at = number_at w bytes at * 256 + get_or bytes (at + w) 0

-- the number of index i in a run of numbers of w bytes each
unfoldable pub element_at : (w : ℕ) (bytes : List ℕ) (i : ℕ) → ℕ
element_at w bytes i = number_at w bytes (w * i)

-- the bytes with another number at an index: its w bytes change, and no other
unfoldable pub with_element : (w : ℕ) (bytes : List ℕ) (i x : ℕ) → List ℕ
with_element w bytes i x = take (w * i) bytes ++ (bytes_of w x ++ drop (w * i + w) bytes)

-- a run's bytes, w for each number; and the run of the first n numbers
unfoldable pub encoded : (w : ℕ) (numbers : List ℕ) → List ℕ
encoded w numbers = flat (bytes_of w) numbers

unfoldable pub decoded : (w : ℕ) (bytes : List ℕ) (n : ℕ) → List ℕ
decoded w bytes n = tabulate (element_at w bytes) 0 n

-- each number of the run is a byte
abbrev pub AreBytes : (bytes : List ℕ) → Type 0
AreBytes bytes = (i : ℕ) → i < length bytes → get_or bytes i 0 < 256
