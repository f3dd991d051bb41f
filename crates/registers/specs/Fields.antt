-- The register fields by their places: numbers 0 to 9 are the registers' own, place 10 is exception value × 2 + write bit.
use Rattle.std.specs.Prelude.{ℕ, ◌^◌, Bool, List, [], ◌∷◌, get_or, set, replicate, ltb}
use Rattle.runs.specs.Counts.{all}
use Rattle.registers.specs.declared.Registers.{Registers}

-- the fields in the order of their places, each one word
unfoldable pub to_words : Registers → List ℕ
to_words r =
    r.kseg ∷ r.ctrl ∷ r.enable ∷ r.kbase_lo ∷ r.kbase_hi ∷ r.context ∷ r.select ∷ r.tlb_hi ∷ r.tlb_lo ∷ r.test ∷ r.cause
    ∷ []

unfoldable pub from_words : List ℕ → Registers
from_words words = record {
  kseg = get_or words 0 0;
  ctrl = get_or words 1 0;
  enable = get_or words 2 0;
  kbase_lo = get_or words 3 0;
  kbase_hi = get_or words 4 0;
  context = get_or words 5 0;
  select = get_or words 6 0;
  tlb_hi = get_or words 7 0;
  tlb_lo = get_or words 8 0;
  test = get_or words 9 0;
  cause = get_or words 10 0;
}

-- the field at a place, and the registers with another value there
unfoldable pub field : Registers → (place : ℕ) → ℕ
field r place = get_or (to_words r) place 0

unfoldable pub put : Registers → (place value : ℕ) → Registers
put r place value = from_words (set (to_words r) place value)

-- the places; those of KSEG to test mode are document 01's register numbers
abbrev pub KSEG : ℕ
KSEG = 0

abbrev pub CTRL : ℕ
CTRL = 1

abbrev pub ENABLE : ℕ
ENABLE = 2

abbrev pub KBASE_LO : ℕ
KBASE_LO = 3

abbrev pub KBASE_HI : ℕ
KBASE_HI = 4

abbrev pub CONTEXT : ℕ
CONTEXT = 5

abbrev pub SELECT : ℕ
SELECT = 6

abbrev pub TLB_HI : ℕ
TLB_HI = 7

abbrev pub TLB_LO : ℕ
TLB_LO = 8

abbrev pub TEST : ℕ
TEST = 9

abbrev pub CAUSE : ℕ
CAUSE = 10

-- how many there are
abbrev pub FIELDS : ℕ
FIELDS = 11

-- how many bits each field has: KSEG 16, CTRL 3, ENABLE 1, KBASE_LO 32, KBASE_HI 32, CONTEXT 6, SELECT 6, TLB_HI 25 (vpn in
-- bits 24 to 6, page_id in 5 to 0), TLB_LO 23 (entry bits 22 to 0), test mode 1, the cause 5
unfoldable pub widths : List ℕ
widths = 16 ∷ 3 ∷ 1 ∷ 32 ∷ 32 ∷ 6 ∷ 6 ∷ 25 ∷ 23 ∷ 1 ∷ 5 ∷ []

-- a value is within the bits of the field at a place
unfoldable pub fits_at : (place value : ℕ) → Bool
fits_at place value = ltb value (2 ^ get_or widths place 0)

-- no register field exceeds its bits
unfoldable pub registers_fit : Registers → Bool
registers_fit r = all (λ place. fits_at place (field r place)) FIELDS

-- all registers 0
unfoldable pub zero_registers : Registers
zero_registers = from_words (replicate FIELDS 0)
