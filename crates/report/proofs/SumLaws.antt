-- The running totals are the sums over the records. Assumes nothing.
use Prim.Native.Nat.{ℕ, ◌+◌, ◌*◌, ◌≤◌, ◌<◌}
use mathlib.Core.Path.{◌≡◌, refl, sym, ap, ap₂, subst, ◌∙◌}
use mathlib.Core.Bool.{Bool, true, false, cond, true≢false}
use mathlib.Core.List.{List, [], ◌∷◌}
use native.Mathlib.Omega.{arith}
use lib.ListN.{length, get_or, set, replicate, length-set, length-replicate}
use lib.Seq.{get_or-set_same, get_or-set_other}
use lib.Dec.{eqb, leb}
use lib.IntN.{ℤ, pos, ◌+ℤ◌, +ℤ_idl, +ℤ_idr, +ℤ_assoc}
use borrow.Author.Tests.{eqb-true, eqb-false, le-leb}
use Rattle.registers.specs.declared.Outcome.{Outcome}
use Rattle.registers.specs.declared.Outcome.TheVariants.{At, Fault, Done, Refused}
use Rattle.page_table.specs.Faults.{fault_kind}
use Rattle.store.specs.Machine.{Machine}
use Rattle.trace.specs.Commands.{commands_of}
use Rattle.trace.specs.Steps.{step_reply, words_after_step, machine_after_step}
use Rattle.trace.specs.Traces.{start_machine}
use Rattle.trace.specs.declared.Command.{Command}
use Rattle.trace.specs.declared.Command.TheVariants.{Serve, Store, Set, Malformed}
use Rattle.report.specs.Totals.{TOTALS, Gain, Booked, total_at, booked, booked_within, booked_all}
use Rattle.report.specs.Gains.{gain, has_column, fault_column, fault_gains, access_gains, store_gains, leaf_change, gains_of}
use Rattle.report.specs.Tallies.{Tally, booked_by, tally_step, continued, tally_of, file_tally}
use Rattle.report.specs.Sums.{amount_in, added, sum_of, TotalsAreSums, FileTotalsAreSums}
use Rattle.report.proofs.GainLaws.{column-small}
use Rattle.report.proofs.StartLaws.{zero-total}

-- every amount of a list has a column
abbrev pub Columned : List Gain → Type 0
Columned [] = Unit {0}
Columned (g ∷ gs) = (g.column < 14) × Columned gs

fault-columned : (kind : ℕ) → Columned (fault_gains kind)
unfolding fault_gains gain
fault-columned kind = go (has_column kind)
  where
    go : (b : Bool) → Columned (cond b (gain (fault_column kind) (pos 1) ∷ []) [])
    go true = (column-small kind (fault_column kind) refl, tt)
    go false = tt

access-columned : (o : Outcome) (loads : ℕ) → Columned (access_gains o loads)
unfolding access_gains gain
access-columned (At address) loads = (omega arith, (omega arith, tt))
access-columned (Fault value) loads = (omega arith, (omega arith, fault-columned (fault_kind value)))
access-columned (Done value) loads = tt
access-columned (Refused number) loads = tt

store-columned : (o : Outcome) (change : ℤ) → Columned (store_gains o change)
unfolding store_gains gain
store-columned (At address) change = tt
store-columned (Fault value) change = tt
store-columned (Done emptied) change = (omega arith, (omega arith, tt))
store-columned (Refused number) change = tt

pub gains-columned : (m : Machine) (c : Command) → Columned (gains_of m c)
unfolding gains_of
gains-columned m (Serve a) = access-columned (step_reply m (Serve a)).outcome (step_reply m (Serve a)).loads
gains-columned m (Store index value) =
    store-columned (step_reply m (Store index value)).outcome (leaf_change m.words (words_after_step m (Store index value)))
gains-columned m (Set number value) = tt
gains-columned m Malformed = tt

-- one amount booked
module _ (id : ℕ) (g : Gain) (totals : List ℤ) where
  pub booked-length : length (booked id g totals) ≡ length totals
  unfolding booked
  booked-length = go (leb id 62)
    where
      go : (b : Bool)
          → length (cond b (set totals (total_at id g.column) (get_or totals (total_at id g.column) (pos 0) +ℤ g.amount)) totals)
          ≡ length totals
      go true = length-set totals (total_at id g.column) (get_or totals (total_at id g.column) (pos 0) +ℤ g.amount)
      go false = refl

  -- its own total is the sum
  booked-here : id ≤ 62 → g.column < 14 → length totals ≡ TOTALS
      → get_or (booked id g totals) (total_at id g.column) (pos 0) ≡ get_or totals (total_at id g.column) (pos 0) +ℤ g.amount
  unfolding booked total_at
  booked-here h low long =
      let on : leb id 62 ≡ true = le-leb id 62 h in
      rw on
      (get_or-set_same totals (14 * id + g.column) (get_or totals (14 * id + g.column) (pos 0) +ℤ g.amount) (pos 0) (omega arith))

  -- every other total stays
  booked-there : (at : ℕ) → (at ≡ total_at id g.column → ⊥) → get_or (booked id g totals) at (pos 0) ≡ get_or totals at (pos 0)
  unfolding booked
  booked-there at ne = go (leb id 62)
    where
      go : (b : Bool)
          → get_or (cond b (set totals (total_at id g.column) (get_or totals (total_at id g.column) (pos 0) +ℤ g.amount)) totals) at
          (pos 0)
          ≡ get_or totals at (pos 0)
      go true =
          get_or-set_other totals (total_at id g.column) at (get_or totals (total_at id g.column) (pos 0) +ℤ g.amount) (pos 0) ne
      go false = refl

-- totals of other identifications or columns stand at other places
other-id : (a b c d : ℕ) → b < 14 → d < 14 → (c ≡ a → ⊥) → total_at a b ≡ total_at c d → ⊥
unfolding total_at
other-id a b c d h k ne e = ne (omega arith)

other-column : (a b c d : ℕ) → b < 14 → d < 14 → (d ≡ b → ⊥) → total_at a b ≡ total_at c d → ⊥
unfolding total_at
other-column a b c d h k ne e = ne (omega arith)

-- a total of an identification, where amounts are booked under a context
module _ (context id column : ℕ) (inside : id ≤ 62) (low : column < 14) where
  abbrev pub now : List ℤ → ℤ
  now totals = get_or totals (total_at id column) (pos 0)

  abbrev pub one : Gain → ℤ
  one g = cond (eqb context id) (cond (eqb g.column column) g.amount (pos 0)) (pos 0)

  abbrev all : List Gain → ℤ
  all gs = cond (eqb context id) (amount_in column gs) (pos 0)

  pub booked-adds : (g : Gain) (totals : List ℤ) → g.column < 14 → length totals ≡ TOTALS
      → now (booked context g totals) ≡ now totals +ℤ one g
  booked-adds g totals has long = go (eqb context id) refl (eqb g.column column) refl
    where
      go : (a : Bool) → eqb context id ≡ a → (b : Bool) → eqb g.column column ≡ b
          → now (booked context g totals) ≡ now totals +ℤ cond a (cond b g.amount (pos 0)) (pos 0)
      go true p true q =
          let e : context ≡ id = eqb-true context id p in
          let f : g.column ≡ column = eqb-true g.column column q in
          subst (λ (i : ℕ). get_or (booked context g totals) i (pos 0) ≡ get_or totals i (pos 0) +ℤ g.amount) (ap₂ total_at e f)
          (booked-here context g totals (omega arith) has long)
      go true p false q =
          booked-there context g totals (total_at id column)
          (other-column id column context g.column low has (eqb-false g.column column q))
          ∙ sym (+ℤ_idr (now totals))
      go false p b q =
          booked-there context g totals (total_at id column) (other-id id column context g.column low has (eqb-false context id p))
          ∙ sym (+ℤ_idr (now totals))

  adds-more : (g : Gain) (gs : List Gain) → all (g ∷ gs) ≡ one g +ℤ all gs
  unfolding amount_in
  adds-more g gs = go (eqb context id)
    where
      go : (b : Bool)
          → cond b (cond (eqb g.column column) g.amount (pos 0) +ℤ amount_in column gs) (pos 0)
          ≡ cond b (cond (eqb g.column column) g.amount (pos 0)) (pos 0) +ℤ cond b (amount_in column gs) (pos 0)
      go true = refl
      go false = refl

  adds_none : pos 0 ≡ all []
  unfolding amount_in
  adds_none = go (eqb context id)
    where
      go : (b : Bool) → pos 0 ≡ cond b (pos 0) (pos 0)
      go true = refl
      go false = refl

  -- amounts that all fit
  books-add : (gs : List Gain) (totals : List ℤ) → Columned gs → length totals ≡ TOTALS → (booked_all context gs totals).fits ≡ true
      → (now (booked_all context gs totals).totals ≡ now totals +ℤ all gs) × (length (booked_all context gs totals).totals ≡ TOTALS)
  unfolding booked_all
  books-add [] totals h long e = (sym (+ℤ_idr (now totals)) ∙ ap (λ (z : ℤ). now totals +ℤ z) adds_none, long)
  books-add (g ∷ gs) totals h long e =
      go (booked_within context g totals) e
      (books-add gs (booked context g totals) h.1 (booked-length context g totals ∙ long))
    where
      rest : Booked
      rest = booked_all context gs (booked context g totals)

      stop : Booked
      stop = record { totals = booked context g totals; fits = false }

      go : (w : Bool) → (cond w rest stop).fits ≡ true
          → (rest.fits ≡ true → (now rest.totals ≡ now (booked context g totals) +ℤ all gs) × (length rest.totals ≡ TOTALS))
          → (now (cond w rest stop).totals ≡ now totals +ℤ all (g ∷ gs)) × (length (cond w rest stop).totals ≡ TOTALS)
      go true q ih = (
        (ih q).0
            ∙ ap (λ (z : ℤ). z +ℤ all gs) (booked-adds g totals h.0 long)
            ∙ +ℤ_assoc (now totals) (one g) (all gs)
            ∙ ap (λ (z : ℤ). now totals +ℤ z) (sym (adds-more g gs)),
        (ih q).1,
      )
      go false q ih = absurd (true≢false (sym q))

-- one record
module _ (m : Machine) (totals : List ℤ) (c : Command) (id column : ℕ) (inside : id ≤ 62) (low : column < 14) (long : length totals ≡ TOTALS)
    (fit : (booked_by m totals c).fits ≡ true) where
  pub record-adds : (get_or (booked_by m totals c).totals (total_at id column) (pos 0)
      ≡ get_or totals (total_at id column) (pos 0) +ℤ added m c id column) × (length (booked_by m totals c).totals ≡ TOTALS)
  unfolding booked_by added
  record-adds = books-add m.registers.context id column inside low (gains_of m c) totals (gains-columned m c) long fit

pub totals-are-sums : TotalsAreSums
unfolding tally_of continued tally_step sum_of
totals-are-sums m totals [] id column inside low long e = sym (+ℤ_idr (get_or totals (total_at id column) (pos 0)))
totals-are-sums m totals (c ∷ cs) id column inside low long e =
    go (booked_by m totals c).fits refl e
    (totals-are-sums (machine_after_step m c) (booked_by m totals c).totals cs id column inside low)
  where
    rest : Tally
    rest = tally_of (machine_after_step m c) (booked_by m totals c).totals cs

    stop : Bool → Tally
    stop b = record { machine = machine_after_step m c; totals = (booked_by m totals c).totals; fits = b }

    go : (b : Bool) → (booked_by m totals c).fits ≡ b → (cond b rest (stop b)).fits ≡ true
        → (length (booked_by m totals c).totals ≡ TOTALS → rest.fits ≡ true
        → get_or rest.totals (total_at id column) (pos 0)
        ≡ get_or (booked_by m totals c).totals (total_at id column) (pos 0) +ℤ sum_of (machine_after_step m c) cs id column)
        → get_or (cond b rest (stop b)).totals (total_at id column) (pos 0)
        ≡ get_or totals (total_at id column) (pos 0) +ℤ (added m c id column +ℤ sum_of (machine_after_step m c) cs id column)
    go true p q ih =
        let r = record-adds m totals c id column inside low long p in
        ih r.1 q
        ∙ ap (λ (z : ℤ). z +ℤ sum_of (machine_after_step m c) cs id column) r.0
        ∙ +ℤ_assoc (get_or totals (total_at id column) (pos 0)) (added m c id column) (sum_of (machine_after_step m c) cs id column)
    go false p q ih = absurd (true≢false (sym q))

pub file-totals-are-sums : FileTotalsAreSums
unfolding file_tally
file-totals-are-sums lent input id column inside low e =
    totals-are-sums (start_machine lent) (replicate TOTALS (pos 0)) (commands_of input) id column inside low (length-replicate TOTALS (pos 0)) e
    ∙ ap (λ (z : ℤ). z +ℤ sum_of (start_machine lent) (commands_of input) id column) (zero-total TOTALS (total_at id column))
    ∙ +ℤ_idl (sum_of (start_machine lent) (commands_of input) id column)
