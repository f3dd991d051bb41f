-- Linear segments: supervisor mode, and the segment's bit in R_MMU_KSEG set.
use Rattle.std.specs.Prelude.{ℕ, ◌+◌, ◌-◌, ◌*◌, ◌^◌, Bool, cond, not, ◌&&◌, ltb}
use Rattle.runs.specs.Bits.{bits, flag}
use Rattle.registers.specs.declared.Access.{Access}

-- address bits 31 to 28
unfoldable pub segment_of : (address : ℕ) → ℕ
segment_of address = bits 31 28 address

-- bit n belongs to segment n; user mode ignores the register
unfoldable pub in_linear_segment : (kseg : ℕ) → Access → Bool
in_linear_segment kseg a = not a.user && flag (segment_of a.address) kseg

-- the n-th four bits, counted from the lowest
unfoldable pub nibble : (n word : ℕ) → ℕ
nibble n word = bits (4 * n + 3) (4 * n) word

-- KBASE_LO and KBASE_HI hold four bits per segment, the lowest segment in the lowest bits
unfoldable pub segment_base : (lo hi segment : ℕ) → ℕ
segment_base lo hi segment = cond (ltb segment 8) (nibble segment lo) (nibble (segment - 8) hi)

-- bits 31 to 28 become the segment's base, the rest stays
unfoldable pub linear_address : (lo hi address : ℕ) → ℕ
linear_address lo hi address = segment_base lo hi (segment_of address) * 2 ^ 28 + bits 27 0 address
