-- Signed totals: the test of the limit, sums that fit 64 bits, and one amount booked. Assumes nothing.
use Prim.Native.Nat.{ℕ, zero, suc, ◌+◌, ◌-◌, ◌*◌, ◌≤◌, ◌<◌}
use mathlib.Core.Path.{◌≡◌, refl, sym, ap, ap₂, subst, ◌∙◌}
use mathlib.Core.Bool.{Bool, true, false, cond, ◌&&◌}
use mathlib.Core.List.{List, [], ◌∷◌, ◌++◌}
use native.Mathlib.Omega.{arith}
use lib.ListN.{length, get_or, set}
use lib.Seq.{get_or-set_same, get_or-set_other}
use lib.Dec.{eqb, leb, ltb}
use lib.IntN.{ℤ, pos, negsuc, nat_abs, sub_ℕ, ◌+ℤ◌, ◌-ℤ◌}
use lib.Signed.{le_z}
use borrow.Author.Tests.{eqb-true, eqb-false, leb-true, leb-false, le-leb, lt-leb}
use mir.Syntax.{w64}
use mir.Val.{SFits, of_z, to_z}
use mir.ValLaws.{to_z-of_z}
use Rattle.runs.proofs.Bools.{clash}
use Rattle.report.specs.Totals.{TOTALS, Gain, Booked, total_at, booked, within, booked_within, booked_all, AllWithin, BookGives, BookAllGives}
use Rattle.report.specs.Gains.{gain}

-- the limit's test, in the code's words
pub within-is : (z : ℤ) → le_z (negsuc 4294967294) z && le_z z (pos 4294967295) ≡ within z
unfolding within
within-is (pos n) = refl
within-is (negsuc n) = go (leb n 4294967294) refl
  where
    go : (b : Bool) → leb n 4294967294 ≡ b → b && true ≡ leb (suc n) 4294967295
    go true e = let l = leb-true n 4294967294 e in sym (le-leb (suc n) 4294967295 (omega arith))
    go false e = let l = leb-false n 4294967294 e in sym (lt-leb (suc n) 4294967295 (omega arith))

-- a number of that size is a signed one of 64 bits, and so is the sum of two
pub small-fits : (z : ℤ) → nat_abs z ≤ 4294967296 → SFits w64 z
small-fits (pos n) h = record { sfits = omega arith }
small-fits (negsuc n) h = record { sfits = omega arith }

difference-fits : (a b : ℕ) → a ≤ 4294967296 → b ≤ 4294967296 → SFits w64 (sub_ℕ a b)
difference-fits a b h k = go (ltb a b)
  where
    go : (c : Bool) → SFits w64 (cond c (negsuc (b - suc a)) (pos (a - b)))
    go true = record { sfits = omega arith }
    go false = record { sfits = omega arith }

pub sum_fits : (x y : ℤ) → nat_abs x ≤ 4294967296 → nat_abs y ≤ 4294967296 → SFits w64 (x +ℤ y)
sum_fits (pos a) (pos b) h k = record { sfits = omega arith }
sum_fits (pos a) (negsuc b) h k = difference-fits a (suc b) h k
sum_fits (negsuc a) (pos b) h k = difference-fits b (suc a) k h
sum_fits (negsuc a) (negsuc b) h k = record { sfits = omega arith }

-- what the machine reads back is the number
pub read_back : (z : ℤ) → SFits w64 z → to_z w64 (of_z w64 z) ≡ z
read_back z f = to_z-of_z w64 z f

module _ (x y : ℤ) (h : nat_abs x ≤ 4294967296) (k : nat_abs y ≤ 4294967296) where
  operands : to_z w64 (of_z w64 x) +ℤ to_z w64 (of_z w64 y) ≡ x +ℤ y
  operands = ap₂ ◌+ℤ◌ (read_back x (small-fits x h)) (read_back y (small-fits y k))

  pub add-fits : SFits w64 (to_z w64 (of_z w64 x) +ℤ to_z w64 (of_z w64 y))
  add-fits = subst (SFits w64) (sym operands) (sum_fits x y h k)

  pub add_is : to_z w64 (of_z w64 (to_z w64 (of_z w64 x) +ℤ to_z w64 (of_z w64 y))) ≡ x +ℤ y
  add_is = read_back (to_z w64 (of_z w64 x) +ℤ to_z w64 (of_z w64 y)) add-fits ∙ operands

-- every total is within the limit, and stays so where the one that is set is
pub all_set : (totals : List ℤ) (at : ℕ) (total : ℤ) → AllWithin totals → at < length totals → nat_abs total ≤ 4294967295
    → AllWithin (set totals at total)
all_set totals at total all inside h = record { each = λ i. go i (eqb i at) refl }
  where
    go : (i : ℕ) (b : Bool) → eqb i at ≡ b → nat_abs (get_or (set totals at total) i (pos 0)) ≤ 4294967295
    go i true e =
        subst (λ (z : ℤ). nat_abs z ≤ 4294967295)
        (sym (ap (λ (j : ℕ). get_or (set totals at total) j (pos 0)) (eqb-true i at e) ∙ get_or-set_same totals at total (pos 0) inside)) h
    go i false e =
        subst (λ (z : ℤ). nat_abs z ≤ 4294967295) (sym (get_or-set_other totals at i total (pos 0) (eqb-false i at e))) (all.each i)

-- the two ways through booking an amount
module _ (id column : ℕ) (amount : ℤ) (totals : List ℤ) (all : AllWithin totals) where
  pub book-none : 62 < id → BookGives id (gain column amount) totals true totals
  unfolding booked booked_within
  book-none h =
      let off : leb id 62 ≡ false = lt-leb id 62 h in
      record { totals-are = rw off; fits-is = rw off; in-limit = λ e. all }

  old-small : nat_abs (get_or totals (14 * id + column) (pos 0)) ≤ 4294967296
  old-small = let h = all.each (14 * id + column) in omega arith

  module _ (small : nat_abs amount ≤ 4294967296) where
    pub book-fits : SFits w64 (to_z w64 (of_z w64 (get_or totals (14 * id + column) (pos 0))) +ℤ to_z w64 (of_z w64 amount))
    book-fits = add-fits (get_or totals (14 * id + column) (pos 0)) amount old-small small

    pub book-done : (total : ℤ) (b : Bool)
        → total ≡ to_z w64 (of_z w64 (to_z w64 (of_z w64 (get_or totals (14 * id + column) (pos 0))) +ℤ to_z w64 (of_z w64 amount)))
        → b ≡ within total → length totals ≡ TOTALS → column < 14 → id ≤ 62
        → BookGives id (gain column amount) totals b (set totals (14 * id + column) total)
    unfolding booked booked_within total_at gain within
    book-done total b e test fits low h =
        let on : leb id 62 ≡ true = le-leb id 62 h in
        let sum : total ≡ get_or totals (14 * id + column) (pos 0) +ℤ amount =
        e ∙ add_is (get_or totals (14 * id + column) (pos 0)) amount old-small small in
        record {
          totals-are = rw on (ap (set totals (14 * id + column)) sum);
          fits-is = rw on (test ∙ ap within sum);
          in-limit = λ q.
              all_set totals (14 * id + column) total all (omega arith) (leb-true (nat_abs total) 4294967295 (sym test ∙ q));
        }

-- amounts one after the other
pub books-none : (id : ℕ) (totals : List ℤ) → AllWithin totals → BookAllGives id [] totals true totals
unfolding booked_all
books-none id totals all = record { totals-are = refl; fits-is = refl; in-limit = λ e. all }

pub books-one : (id : ℕ) (g : Gain) (totals : List ℤ) (b : Bool) (after : List ℤ) → BookGives id g totals b after
    → BookAllGives id (g ∷ []) totals b after
unfolding booked_all
books-one id g totals b after p = record {
  totals-are = p.totals-are ∙ same (booked_within id g totals);
  fits-is = p.fits-is ∙ told (booked_within id g totals);
  in-limit = p.in-limit;
}
  where
    same : (w : Bool) → booked id g totals
        ≡ (cond {A = Booked} w (record { totals = booked id g totals; fits = true }) (record {
          totals = booked id g totals;
          fits = false;
        })).totals
    same true = refl
    same false = refl

    told : (w : Bool)
        → w ≡ (cond {A = Booked} w (record { totals = booked id g totals; fits = true }) (record {
          totals = booked id g totals;
          fits =
              false;
        })).fits
    told true = refl
    told false = refl

-- further amounts are booked where the first ones stayed within the limit
booked-append : (id : ℕ) (gs hs : List Gain) (totals : List ℤ)
    → booked_all id (gs ++ hs) totals
    ≡ cond (booked_all id gs totals).fits (booked_all id hs (booked_all id gs totals).totals) (booked_all id gs totals)
unfolding booked_all
booked-append id [] hs totals = refl
booked-append id (g ∷ gs) hs totals = go (booked_within id g totals) (booked-append id gs hs (booked id g totals))
  where
    go : (w : Bool)
        → booked_all id (gs ++ hs) (booked id g totals)
        ≡ cond (booked_all id gs (booked id g totals)).fits (booked_all id hs (booked_all id gs (booked id g totals)).totals)
        (booked_all id gs (booked id g totals))
        → cond w (booked_all id (gs ++ hs) (booked id g totals)) (record { totals = booked id g totals; fits = false })
        ≡ cond (cond w (booked_all id gs (booked id g totals)) (record { totals = booked id g totals; fits = false })).fits
        (booked_all id hs (cond w (booked_all id gs (booked id g totals)) (record { totals = booked id g totals; fits = false })).totals)
        (cond w (booked_all id gs (booked id g totals)) (record { totals = booked id g totals; fits = false }))
    go true ih = ih
    go false ih = refl

module _ (id : ℕ) (gs hs : List Gain) (totals : List ℤ) (b : Bool) (mid : List ℤ) (p : BookAllGives id gs totals b mid) where
  pub books-then : b ≡ true → (c : Bool) (after : List ℤ) → BookAllGives id hs mid c after → BookAllGives id (gs ++ hs) totals c after
  books-then e c after q = record {
    totals-are = q.totals-are ∙ ap (λ (x : Booked). x.totals) (sym whole);
    fits-is = q.fits-is ∙ ap (λ (x : Booked). x.fits) (sym whole);
    in-limit = q.in-limit;
  }
    where
      whole : booked_all id (gs ++ hs) totals ≡ booked_all id hs mid
      whole =
          booked-append id gs hs totals
          ∙ ap₂ (λ (w : Bool) (ts : List ℤ). cond w (booked_all id hs ts) (booked_all id gs totals)) (sym p.fits-is ∙ e) (sym p.totals-are)

  pub books-stop : b ≡ false → BookAllGives id (gs ++ hs) totals false mid
  books-stop e = record {
    totals-are = p.totals-are ∙ ap (λ (x : Booked). x.totals) (sym whole);
    fits-is = sym e ∙ p.fits-is ∙ ap (λ (x : Booked). x.fits) (sym whole);
    in-limit = λ q. absurd (clash refl (sym q));
  }
    where
      whole : booked_all id (gs ++ hs) totals ≡ booked_all id gs totals
      whole =
          booked-append id gs hs totals
          ∙ ap (λ (w : Bool). cond w (booked_all id hs (booked_all id gs totals).totals) (booked_all id gs totals)) (sym p.fits-is ∙ e)

-- two amounts
module _ (id : ℕ) (g h : Gain) (totals : List ℤ) (b : Bool) (mid : List ℤ) (p : BookGives id g totals b mid) where
  pub two-stop : b ≡ false → BookAllGives id (g ∷ h ∷ []) totals false mid
  two-stop e = books-stop id (g ∷ []) (h ∷ []) totals b mid (books-one id g totals b mid p) e

  pub two-done : b ≡ true → (c : Bool) (after : List ℤ) → BookGives id h mid c after → BookAllGives id (g ∷ h ∷ []) totals c after
  two-done e c after q =
      books-then id (g ∷ []) (h ∷ []) totals b mid (books-one id g totals b mid p) e c after (books-one id h mid c after q)

-- an amount in other words
pub book-as : (id column : ℕ) (x y : ℤ) (totals : List ℤ) (b : Bool) (after : List ℤ) → x ≡ y → BookGives id (gain column x) totals b after
    → BookGives id (gain column y) totals b after
book-as id column x y totals b after e p = subst (λ (z : ℤ). BookGives id (gain column z) totals b after) e p

-- amounts are small enough
pub amount-small : (z : ℤ) (n : ℕ) → z ≡ pos n → n < 4294967296 → nat_abs z ≤ 4294967296
amount-small z n e h = subst (λ (x : ℤ). nat_abs x ≤ 4294967296) (sym e) (omega arith)

difference-small : (a b : ℕ) → a < 4294967296 → b < 4294967296 → nat_abs (pos a -ℤ pos b) ≤ 4294967296
difference-small a zero h k = omega arith
difference-small a (suc b) h k = go (ltb a (suc b))
  where
    go : (c : Bool) → nat_abs (cond c (negsuc (suc b - suc a)) (pos (a - suc b))) ≤ 4294967296
    go true = omega arith
    go false = omega arith

pub change-small : (z : ℤ) (a b : ℕ) → z ≡ pos a -ℤ pos b → a < 4294967296 → b < 4294967296 → nat_abs z ≤ 4294967296
change-small z a b e h k = subst (λ (x : ℤ). nat_abs x ≤ 4294967296) (sym e) (difference-small a b h k)

-- a number of 32 bits as a signed one, and the difference of two
pub wide_is : (n : ℕ) → n < 4294967296 → to_z w64 n ≡ pos n
wide_is n h = read_back (pos n) (record { sfits = omega arith })

module _ (a b : ℕ) (h : a < 4294967296) (k : b < 4294967296) where
  sides : to_z w64 a -ℤ to_z w64 b ≡ pos a -ℤ pos b
  sides = ap₂ ◌-ℤ◌ (wide_is a h) (wide_is b k)

  pub minus-fits : SFits w64 (to_z w64 a -ℤ to_z w64 b)
  minus-fits = subst (SFits w64) (sym sides) (small-fits (pos a -ℤ pos b) (difference-small a b h k))

  pub minus_is : to_z w64 (of_z w64 (to_z w64 a -ℤ to_z w64 b)) ≡ pos a -ℤ pos b
  minus_is = read_back (to_z w64 a -ℤ to_z w64 b) minus-fits ∙ sides

-- an amount as it is passed on
pub wide-passed : (z : ℤ) (n : ℕ) → z ≡ pos n → n < 4294967296 → to_z w64 (of_z w64 z) ≡ pos n
wide-passed z n e h = read_back z (small-fits z (amount-small z n e h)) ∙ e

pub change-passed : (z : ℤ) (a b : ℕ) → z ≡ pos a -ℤ pos b → a < 4294967296 → b < 4294967296 → to_z w64 (of_z w64 z) ≡ pos a -ℤ pos b
change-passed z a b e h k = read_back z (small-fits z (change-small z a b e h k)) ∙ e
