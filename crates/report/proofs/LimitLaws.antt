-- A tally fits exactly where the sums over its records stay within the limit. Assumes nothing.
use Prim.Native.Nat.{ℕ, zero, suc, ◌+◌, ◌*◌, ◌≤◌, ◌<◌}
use mathlib.Core.Path.{◌≡◌, refl, sym, ap, ap₂, ◌∙◌}
use mathlib.Core.Bool.{Bool, true, false, cond, true≢false}
use mathlib.Core.List.{List, [], ◌∷◌}
use native.Mathlib.Omega.{arith}
use lib.ListN.{length, get_or, set, take, replicate, length-replicate}
use lib.Dec.{eqb, leb}
use lib.IntN.{ℤ, pos, nat_abs, ◌+ℤ◌, +ℤ_idr, +ℤ_assoc}
use borrow.Author.Tests.{eqb-true, leb-true, leb-false, le-leb, lt-leb, eq-eqb}
use Rattle.registers.specs.declared.Outcome.{Outcome}
use Rattle.registers.specs.declared.Outcome.TheVariants.{At, Fault, Done, Refused}
use Rattle.page_table.specs.Faults.{fault_kind}
use Rattle.store.specs.Machine.{Machine}
use Rattle.trace.specs.Commands.{commands_of}
use Rattle.trace.specs.Steps.{step_reply, words_after_step, machine_after_step}
use Rattle.trace.specs.Traces.{start_machine}
use Rattle.trace.specs.declared.Command.{Command}
use Rattle.trace.specs.declared.Command.TheVariants.{Serve, Store, Set, Malformed}
use Rattle.report.specs.Totals.{TOTALS, Gain, Booked, total_at, booked, within, booked_within, booked_all, AllWithin}
use Rattle.report.specs.Gains.{gain, has_column, fault_column, fault_gains, access_gains, store_gains, leaf_change, gains_of}
use Rattle.report.specs.Tallies.{Tally, booked_by, tally_step, continued, tally_of, file_tally}
use Rattle.report.specs.Sums.{amount_in, added, sum_of, StaysWithin, FitsWhereWithin, FileFitsWhereWithin}
use Rattle.report.proofs.StartLaws.{zero-within}
use Rattle.report.proofs.TotalLaws.{all_set}
use Rattle.report.proofs.SumLaws.{Columned, gains-columned, booked-length, booked-adds, record-adds}

-- no two amounts of a list are for one column
abbrev Apart : List Gain → Type 0
Apart [] = Unit {0}
Apart (g ∷ gs) = (amount_in g.column gs ≡ pos 0) × Apart gs

fault-high : (kind : ℕ) → has_column kind ≡ true → 2 ≤ fault_column kind
unfolding has_column fault_column
fault-high zero h = absurd (true≢false (sym h))
fault-high (suc n) h = go (leb (suc n) 8) (eqb (suc n) 16)
  where
    go : (a b : Bool) → 2 ≤ cond a (suc n + 1) (cond b 10 11)
    go true b = omega arith
    go false true = omega arith
    go false false = omega arith

-- a fault's column is none of the two of every access
fault-other : (kind column : ℕ) → column < 2 → amount_in column (fault_gains kind) ≡ pos 0
unfolding fault_gains amount_in gain
fault-other kind column low = go (has_column kind) refl
  where
    away : (b : Bool) → eqb (fault_column kind) column ≡ b → 2 ≤ fault_column kind → cond b (pos 1) (pos 0) +ℤ pos 0 ≡ pos 0
    away true e h = let f = eqb-true (fault_column kind) column e in absurd (omega arith)
    away false e h = refl

    go : (b : Bool) → has_column kind ≡ b → amount_in column (cond b (gain (fault_column kind) (pos 1) ∷ []) []) ≡ pos 0
    go true e = away (eqb (fault_column kind) column) refl (fault-high kind e)
    go false e = refl

fault-apart : (kind : ℕ) → Apart (fault_gains kind)
unfolding fault_gains amount_in
fault-apart kind = go (has_column kind)
  where
    go : (b : Bool) → Apart (cond b (gain (fault_column kind) (pos 1) ∷ []) [])
    go true = (refl, tt)
    go false = tt

access-apart : (o : Outcome) (loads : ℕ) → Apart (access_gains o loads)
unfolding access_gains amount_in gain
access-apart (At address) loads = (refl, (refl, tt))
access-apart (Fault value) loads = (
  ap (λ (z : ℤ). pos 0 +ℤ z) (fault-other (fault_kind value) 0 (omega arith)),
  (fault-other (fault_kind value) 1 (omega arith), fault-apart (fault_kind value)),
)
access-apart (Done value) loads = tt
access-apart (Refused number) loads = tt

store_apart : (o : Outcome) (change : ℤ) → Apart (store_gains o change)
unfolding store_gains amount_in gain
store_apart (At address) change = tt
store_apart (Fault value) change = tt
store_apart (Done emptied) change = (refl, (refl, tt))
store_apart (Refused number) change = tt

gains-apart : (m : Machine) (c : Command) → Apart (gains_of m c)
unfolding gains_of
gains-apart m (Serve a) = access-apart (step_reply m (Serve a)).outcome (step_reply m (Serve a)).loads
gains-apart m (Store index value) =
    store_apart (step_reply m (Store index value)).outcome (leaf_change m.words (words_after_step m (Store index value)))
gains-apart m (Set number value) = tt
gains-apart m Malformed = tt

-- where an amount fits, the totals stay within the limit
module _ (id : ℕ) (g : Gain) (totals : List ℤ) (has : g.column < 14) (long : length totals ≡ TOTALS) where
  stays : AllWithin totals → booked_within id g totals ≡ true → AllWithin (booked id g totals)
  unfolding booked booked_within within total_at
  stays all = go (leb id 62) refl
    where
      sum : ℤ
      sum = get_or totals (14 * id + g.column) (pos 0) +ℤ g.amount

      go : (b : Bool) → leb id 62 ≡ b → cond b (leb (nat_abs sum) 4294967295) true ≡ true
          → AllWithin (cond b (set totals (14 * id + g.column) sum) totals)
      go true p q =
          let l = leb-true id 62 p in
          all_set totals (14 * id + g.column) sum all (omega arith) (leb-true (nat_abs sum) 4294967295 q)
      go false p q = all

all_stay : (id : ℕ) (gs : List Gain) (totals : List ℤ) → Columned gs → length totals ≡ TOTALS → AllWithin totals
    → (booked_all id gs totals).fits ≡ true → AllWithin (booked_all id gs totals).totals
unfolding booked_all
all_stay id [] totals h long all e = all
all_stay id (g ∷ gs) totals h long all e =
    go (booked_within id g totals) refl e (all_stay id gs (booked id g totals) h.1 (booked-length id g totals ∙ long))
  where
    rest : Booked
    rest = booked_all id gs (booked id g totals)

    stop : Booked
    stop = record { totals = booked id g totals; fits = false }

    go : (w : Bool) → booked_within id g totals ≡ w → (cond w rest stop).fits ≡ true
        → (AllWithin (booked id g totals) → rest.fits ≡ true → AllWithin rest.totals) → AllWithin (cond w rest stop).totals
    go true p q ih = ih (stays id g totals h.0 long all p) q
    go false p q ih = absurd (true≢false (sym q))

-- identifications without totals always fit
none-fit : (id : ℕ) (gs : List Gain) (totals : List ℤ) → 62 < id → (booked_all id gs totals).fits ≡ true
unfolding booked_all booked_within
none-fit id [] totals h = refl
none-fit id (g ∷ gs) totals h = let off : leb id 62 ≡ false = lt-leb id 62 h in rw off (none-fit id gs (booked id g totals) h)

-- amounts fit where the sums of each column are within the limit
all_fit : (id : ℕ) (gs : List Gain) (totals : List ℤ) → id ≤ 62 → Columned gs → Apart gs → length totals ≡ TOTALS
    → ((column : ℕ) → column < 14 → within (get_or totals (total_at id column) (pos 0) +ℤ amount_in column gs) ≡ true)
    → (booked_all id gs totals).fits ≡ true
unfolding booked_all booked_within amount_in
all_fit id [] totals inside h apart long each = refl
all_fit id (g ∷ gs) totals inside h apart long each =
    go (booked_within id g totals) first
    (all_fit id gs (booked id g totals) inside h.1 apart.1 (booked-length id g totals ∙ long) (λ column low. further column low))
  where
    here : ℕ → ℤ
    here column = get_or totals (total_at id column) (pos 0)

    part : ℕ → ℤ
    part column = cond (eqb g.column column) g.amount (pos 0)

    own : part g.column +ℤ amount_in g.column gs ≡ g.amount
    own =
        ap₂ (λ (b : Bool) (z : ℤ). cond b g.amount (pos 0) +ℤ z) (eq-eqb g.column g.column refl) apart.0 ∙ +ℤ_idr g.amount

    first : booked_within id g totals ≡ true
    first =
        let on : leb id 62 ≡ true = le-leb id 62 inside in
        rw on (ap (λ (z : ℤ). within (here g.column +ℤ z)) (sym own) ∙ each g.column h.0)

    further : (column : ℕ) → column < 14
        → within (get_or (booked id g totals) (total_at id column) (pos 0) +ℤ amount_in column gs) ≡ true
    further column low =
        ap (λ (z : ℤ). within (z +ℤ amount_in column gs))
        (booked-adds id id column inside low g totals h.0 long
        ∙ ap (λ (b : Bool). here column +ℤ cond b (part column) (pos 0)) (eq-eqb id id refl))
        ∙ ap within (+ℤ_assoc (here column) (part column) (amount_in column gs))
        ∙ each column low

    go : (w : Bool) → w ≡ true → (booked_all id gs (booked id g totals)).fits ≡ true
        → (cond {A = Booked} w (booked_all id gs (booked id g totals)) (record { totals = booked id g totals; fits = false })).fits ≡ true
    go true e ih = ih
    go false e ih = absurd (true≢false (sym e))

-- one record
module _ (m : Machine) (totals : List ℤ) (c : Command) (long : length totals ≡ TOTALS) where
  record-fits : ((id column : ℕ) → id ≤ 62 → column < 14
      → within (get_or totals (total_at id column) (pos 0) +ℤ added m c id column) ≡ true) → (booked_by m totals c).fits ≡ true
  unfolding booked_by added
  record-fits each = go (leb m.registers.context 62) refl
    where
      context : ℕ
      context = m.registers.context

      go : (b : Bool) → leb context 62 ≡ b → (booked_all context (gains_of m c) totals).fits ≡ true
      go true e =
          all_fit context (gains_of m c) totals (leb-true context 62 e) (gains-columned m c) (gains-apart m c) long
          (λ column low.
          ap (λ (b : Bool). within (get_or totals (total_at context column) (pos 0) +ℤ cond b (amount_in column (gains_of m c)) (pos 0)))
          (sym (eq-eqb context context refl))
          ∙ each context column (leb-true context 62 e) low)
      go false e = none-fit context (gains_of m c) totals (leb-false context 62 e)

  record-stays : AllWithin totals → (booked_by m totals c).fits ≡ true → AllWithin (booked_by m totals c).totals
  unfolding booked_by
  record-stays all = all_stay m.registers.context (gains_of m c) totals (gains-columned m c) long all

  -- the sum with the record first is the one from where the record leads
  shifted : (booked_by m totals c).fits ≡ true → (cs : List Command) (id column : ℕ) → id ≤ 62 → column < 14
      → get_or totals (total_at id column) (pos 0) +ℤ sum_of m (c ∷ cs) id column
      ≡ get_or (booked_by m totals c).totals (total_at id column) (pos 0) +ℤ sum_of (machine_after_step m c) cs id column
  unfolding sum_of
  shifted fit cs id column inside low =
      sym (+ℤ_assoc (get_or totals (total_at id column) (pos 0)) (added m c id column) (sum_of (machine_after_step m c) cs id column))
      ∙ ap (λ (z : ℤ). z +ℤ sum_of (machine_after_step m c) cs id column) (sym (record-adds m totals c id column inside low long fit).0)

-- before any record
at_first : (m : Machine) (totals : List ℤ) → AllWithin totals → (id column : ℕ)
    → within (get_or totals (total_at id column) (pos 0) +ℤ sum_of m [] id column) ≡ true
unfolding sum_of within
at_first m totals all id column =
    ap (λ (z : ℤ). leb (nat_abs z) 4294967295) (+ℤ_idr (get_or totals (total_at id column) (pos 0)))
    ∙ le-leb (nat_abs (get_or totals (total_at id column) (pos 0))) 4294967295 (all.each (total_at id column))

none_stays : (m : Machine) (totals : List ℤ) → AllWithin totals → StaysWithin m totals []
none_stays m totals all = record { each = λ n id column inside low. go n id column }
  where
    go : (n id column : ℕ) → within (get_or totals (total_at id column) (pos 0) +ℤ sum_of m (take n []) id column) ≡ true
    go zero id column = at_first m totals all id column
    go (suc n) id column = at_first m totals all id column

module _ (m : Machine) (totals : List ℤ) (c : Command) (cs : List Command) (long : length totals ≡ TOTALS) where
  more_stays : AllWithin totals → (booked_by m totals c).fits ≡ true
      → StaysWithin (machine_after_step m c) (booked_by m totals c).totals cs → StaysWithin m totals (c ∷ cs)
  more_stays all fit s = record { each = go }
    where
      go : (n id column : ℕ) → id ≤ 62 → column < 14
          → within (get_or totals (total_at id column) (pos 0) +ℤ sum_of m (take n (c ∷ cs)) id column) ≡ true
      go zero id column inside low = at_first m totals all id column
      go (suc n) id column inside low =
          ap within (shifted m totals c long fit (take n cs) id column inside low) ∙ s.each n id column inside low

  first_fits : StaysWithin m totals (c ∷ cs) → (booked_by m totals c).fits ≡ true
  unfolding sum_of
  first_fits s =
      record-fits m totals c long (λ id column inside low.
      ap (λ (z : ℤ). within (get_or totals (total_at id column) (pos 0) +ℤ z)) (sym (+ℤ_idr (added m c id column)))
      ∙ s.each 1 id column inside low)

  rest-stays : (booked_by m totals c).fits ≡ true → StaysWithin m totals (c ∷ cs)
      → StaysWithin (machine_after_step m c) (booked_by m totals c).totals cs
  rest-stays fit s = record {
    each = λ n id column inside low.
        ap within (sym (shifted m totals c long fit (take n cs) id column inside low)) ∙ s.each (suc n) id column inside low;
  }

  -- a record and those after it fit where both do
  fits_both : (booked_by m totals c).fits ≡ true
      → (tally_of m totals (c ∷ cs)).fits ≡ (tally_of (machine_after_step m c) (booked_by m totals c).totals cs).fits
  unfolding tally_of continued tally_step
  fits_both e = rw e

  fits-first : (tally_of m totals (c ∷ cs)).fits ≡ true → (booked_by m totals c).fits ≡ true
  unfolding tally_of continued tally_step
  fits-first = go (booked_by m totals c).fits
    where
      go : (b : Bool)
          → (cond {A = Tally} b (tally_of (machine_after_step m c) (booked_by m totals c).totals cs)
          (record { machine = machine_after_step m c; totals = (booked_by m totals c).totals; fits = b })).fits ≡ true
          → b ≡ true
      go true q = refl
      go false q = q

pub fits-where-within : FitsWhereWithin
unfolding tally_of
fits-where-within m totals [] long all = (λ e. none_stays m totals all, λ s. refl)
fits-where-within m totals (c ∷ cs) long all = (
  λ e.
      let fit : (booked_by m totals c).fits ≡ true = fits-first m totals c cs long e in
      let further = fits-where-within (machine_after_step m c) (booked_by m totals c).totals cs (longer fit)
      (record-stays m totals c long all fit) in
      more_stays m totals c cs long all fit (further.0 (sym (fits_both m totals c cs long fit) ∙ e)),
  λ s.
      let fit : (booked_by m totals c).fits ≡ true = first_fits m totals c cs long s in
      let further = fits-where-within (machine_after_step m c) (booked_by m totals c).totals cs (longer fit)
      (record-stays m totals c long all fit) in
      fits_both m totals c cs long fit ∙ further.1 (rest-stays m totals c cs long fit s),
)
  where
    longer : (booked_by m totals c).fits ≡ true → length (booked_by m totals c).totals ≡ TOTALS
    longer fit = (record-adds m totals c 0 0 (omega arith) (omega arith) long fit).1

pub file-fits-where-within : FileFitsWhereWithin
unfolding file_tally
file-fits-where-within lent input =
    fits-where-within (start_machine lent) (replicate TOTALS (pos 0)) (commands_of input) (length-replicate TOTALS (pos 0)) (zero-within TOTALS)
