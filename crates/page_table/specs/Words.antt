-- The fields of a page table's words (course format).
use Rattle.std.specs.Prelude.{ℕ, Bool}
use Rattle.runs.specs.Bits.{bits, flag}

-- "present 1": the highest bit of every word
unfoldable pub present : ℕ → Bool
present w = flag 31 w

-- "Root and directory word: present 1, reserved 15, number 16."
unfoldable pub reserved : ℕ → ℕ
reserved w = bits 30 16 w

unfoldable pub number : ℕ → ℕ
number w = bits 15 0 w

-- "Leaf: present 1, valid 1, kernel 1, we 1, software 9, pfn 19." Nothing reads the software bits 27 to 19.
unfoldable pub leaf_valid : ℕ → Bool
leaf_valid w = flag 30 w

unfoldable pub leaf_kernel : ℕ → Bool
leaf_kernel w = flag 29 w

unfoldable pub leaf_we : ℕ → Bool
leaf_we w = flag 28 w

unfoldable pub leaf_pfn : ℕ → ℕ
leaf_pfn w = bits 18 0 w
