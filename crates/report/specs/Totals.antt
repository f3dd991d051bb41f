-- The totals of the identifications 0 to 62, fourteen for each, and what is booked to them.
use Rattle.std.specs.Prelude.{ℕ, ◌+◌, ◌*◌, ◌≤◌, ◌≡◌, Bool, true, false, cond, List, [], ◌∷◌, get_or, set, leb, ℤ, pos, nat_abs, ◌+ℤ◌}

-- the columns of an identification's line: served accesses, loads, ten for the faults by their kind, slots emptied, and the net change in
-- present leaf words
abbrev pub SERVED : ℕ
SERVED = 0

abbrev pub LOADS : ℕ
LOADS = 1

abbrev pub EMPTIED : ℕ
EMPTIED = 12

abbrev pub CHANGE : ℕ
CHANGE = 13

abbrev pub COLUMNS : ℕ
COLUMNS = 14

-- how many there are for the 63 identifications
abbrev pub TOTALS : ℕ
TOTALS = 63 * COLUMNS

-- where the total of an identification stands
unfoldable pub total_at : (id column : ℕ) → ℕ
total_at id column = COLUMNS * id + column

-- an amount for a column
pub record Gain : Type 0 where
  pub column : ℕ
  pub amount : ℤ

-- a total with an amount added. Identifications above 62 have no totals.
unfoldable pub booked : (id : ℕ) → Gain → (totals : List ℤ) → List ℤ
booked id g totals =
    cond (leb id 62) (set totals (total_at id g.column) (get_or totals (total_at id g.column) (pos 0) +ℤ g.amount)) totals

-- a total is not "past 4,294,967,295 either way"
unfoldable pub within : ℤ → Bool
within total = leb (nat_abs total) 4294967295

-- the total to which an amount is booked stays within the limit
unfoldable pub booked_within : (id : ℕ) → Gain → (totals : List ℤ) → Bool
booked_within id g totals = cond (leb id 62) (within (get_or totals (total_at id g.column) (pos 0) +ℤ g.amount)) true

-- totals after some amounts were booked, and whether each of them stayed within the limit
pub record Booked : Type 0 where
  pub totals : List ℤ
  pub fits : Bool

-- one amount after the other, up to the first that takes its total past the limit
unfoldable pub booked_all : (id : ℕ) → List Gain → (totals : List ℤ) → Booked
booked_all id [] totals = record { totals = totals; fits = true }
booked_all id (g ∷ gs) totals =
    cond (booked_within id g totals) (booked_all id gs (booked id g totals)) (record { totals = booked id g totals; fits = false })

-- every total is within the limit
pub record AllWithin (totals : List ℤ) : Type 0 where
  pub each : (i : ℕ) → nat_abs (get_or totals i (pos 0)) ≤ 4294967295

-- what booking one amount promises
pub record BookGives (id : ℕ) (g : Gain) (totals : List ℤ) (fits : Bool) (after : List ℤ) : Type 0 where
  pub totals-are : after ≡ booked id g totals
  pub fits-is : fits ≡ booked_within id g totals
  pub in-limit : fits ≡ true → AllWithin after

-- and some, one after the other
pub record BookAllGives (id : ℕ) (gains : List Gain) (totals : List ℤ) (fits : Bool) (after : List ℤ) : Type 0 where
  pub totals-are : after ≡ (booked_all id gains totals).totals
  pub fits-is : fits ≡ (booked_all id gains totals).fits
  pub in-limit : fits ≡ true → AllWithin after
