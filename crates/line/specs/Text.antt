-- Numbers and words as text, in ASCII.
use Rattle.std.specs.Prelude.{ℕ, zero, suc, ◌+◌, ◌/◌, ◌%◌, ◌≡◌, cond, List, [], ◌∷◌, ◌++◌, length, take, drop, ltb}
use Prim.Native.Char.{code}
use Prim.Native.String.{String, [] as «end», ◌∷◌ as ◌then◌}

-- the codes of a text's characters
unfoldable pub ascii : String → List ℕ
ascii «end» = []
ascii (c then rest) = code c ∷ ascii rest

-- a digit: 0 to 9, then A to F
unfoldable pub digit : ℕ → ℕ
digit d = cond (ltb d 10) (48 + d) (55 + d)

-- the last `count` digits of n in a base, the most significant first
unfoldable pub digits : (base count n : ℕ) → List ℕ
digits base zero n = []
digits base (suc count) n = digits base count (n / base) ++ (digit (n % base) ∷ [])

-- how many decimal digits n has, at most so many: one below 10, else one more than n div 10
unfoldable pub length_within : (most n : ℕ) → ℕ
length_within zero n = 0
length_within (suc most) n = cond (ltb n 10) 1 (suc (length_within most (n / 10)))

-- a number of 64 bits has at most 20
unfoldable pub decimal_length : (n : ℕ) → ℕ
decimal_length n = length_within 20 n

unfoldable pub decimal : (n : ℕ) → List ℕ
decimal n = digits 10 (decimal_length n) n

-- "eight hex digits"
unfoldable pub hex : (n : ℕ) → List ℕ
hex n = digits 16 8 n

-- a run with a text written over it from an index on
unfoldable pub overwritten : (run : List ℕ) (at : ℕ) (text : List ℕ) → List ℕ
overwritten run at text = take at run ++ (text ++ drop (at + length text) run)

-- what is promised where a text is written: the index behind it, and the run
pub record TextPut (run : List ℕ) (at : ℕ) (text : List ℕ) (behind : ℕ) (after : List ℕ) : Type 0 where
  pub behind-is : behind ≡ at + length text
  pub run_is : after ≡ overwritten run at text

-- a run begins with a text of so many characters
pub record Begins (run : List ℕ) (n : ℕ) (text : List ℕ) : Type 0 where
  pub length-is : n ≡ length text
  pub text-is : take n run ≡ text
