-- What a call gives to the totals, in the code's words. Assumes nothing.
use Prim.Native.Nat.{ℕ, ◌+◌, ◌<◌}
use mathlib.Core.Path.{◌≡◌, refl, sym, ap, subst, ◌∙◌}
use mathlib.Core.Bool.{Bool, true, false, cond}
use mathlib.Core.List.{List, [], ◌∷◌}
use native.Mathlib.Omega.{arith}
use lib.Dec.{eqb, leb}
use lib.IntN.{ℤ, pos}
use borrow.Author.Tests.{leb-true}
use Rattle.registers.specs.declared.Outcome.{Outcome}
use Rattle.registers.specs.declared.Outcome.TheVariants.{At, Fault, Done, Refused}
use Rattle.page_table.specs.Faults.{fault_kind}
use Rattle.report.specs.Totals.{SERVED, LOADS, AllWithin, BookGives, BookAllGives}
use Rattle.report.specs.Gains.{gain, has_column, fault_column, fault_gains, access_gains}
use Rattle.report.proofs.TotalLaws.{books-none, books-one, books-then, books-stop}

-- the column of a fault's kind
pub column-small : (kind r : ℕ) → r ≡ fault_column kind → r < 14
unfolding fault_column
column-small kind r e = rw e (go (leb kind 8) refl (eqb kind 16))
  where
    go : (a : Bool) → leb kind 8 ≡ a → (b : Bool) → cond a (kind + 1) (cond b 10 11) < 14
    go true h b = let l = leb-true kind 8 h in omega arith
    go false h true = omega arith
    go false h false = omega arith

-- a fault's ways
module _ (id value loads : ℕ) (totals : List ℤ) (b : Bool) (mid : List ℤ)
    (p : BookAllGives id (gain SERVED (pos 1) ∷ gain LOADS (pos loads) ∷ []) totals b mid) where
  pub fault-stop : b ≡ false → BookAllGives id (access_gains (Fault value) loads) totals false mid
  unfolding access_gains
  fault-stop e =
      books-stop id (gain SERVED (pos 1) ∷ gain LOADS (pos loads) ∷ []) (fault_gains (fault_kind value)) totals b mid p e

  module _ (e : b ≡ true) (kind : ℕ) (kq : kind ≡ fault_kind value) where
    pub fault-none : has_column kind ≡ false → BookAllGives id (access_gains (Fault value) loads) totals true mid
    unfolding access_gains fault_gains
    fault-none h =
        books-then id (gain SERVED (pos 1) ∷ gain LOADS (pos loads) ∷ []) (fault_gains (fault_kind value)) totals b mid p e true mid
        (subst (λ (w : Bool). BookAllGives id (cond w (gain (fault_column (fault_kind value)) (pos 1) ∷ []) []) mid true mid)
        (sym h ∙ ap has_column kq) (books-none id mid (p.in-limit e)))

    pub fault-done : has_column kind ≡ true → (column : ℕ) → column ≡ fault_column kind → (c : Bool) (after : List ℤ)
        → BookGives id (gain column (pos 1)) mid c after → BookAllGives id (access_gains (Fault value) loads) totals c after
    unfolding access_gains fault_gains
    fault-done h column q c after g =
        books-then id (gain SERVED (pos 1) ∷ gain LOADS (pos loads) ∷ []) (fault_gains (fault_kind value)) totals b mid p e c after
        (subst (λ (w : Bool). BookAllGives id (cond w (gain (fault_column (fault_kind value)) (pos 1) ∷ []) []) mid c after)
        (sym h ∙ ap has_column kq)
        (books-one id (gain (fault_column (fault_kind value)) (pos 1)) mid c after
        (subst (λ (k : ℕ). BookGives id (gain k (pos 1)) mid c after) (q ∙ ap fault_column kq) g)))

-- an access by its outcome
module _ (id loads : ℕ) (outcome : Outcome) (totals : List ℤ) where
  pub access-at : (address : ℕ) (b : Bool) (after : List ℤ) → outcome ≡ At address
      → BookAllGives id (gain SERVED (pos 1) ∷ gain LOADS (pos loads) ∷ []) totals b after → BookAllGives id (access_gains outcome loads)
      totals b after
  unfolding access_gains
  access-at address b after e p = subst (λ (o : Outcome). BookAllGives id (access_gains o loads) totals b after) (sym e) p

  pub access-fault : (value : ℕ) (b : Bool) (after : List ℤ) → outcome ≡ Fault value
      → BookAllGives id (access_gains (Fault value) loads) totals b after → BookAllGives id (access_gains outcome loads) totals b after
  access-fault value b after e p = subst (λ (o : Outcome). BookAllGives id (access_gains o loads) totals b after) (sym e) p

  pub access-done : (value : ℕ) → outcome ≡ Done value → AllWithin totals → BookAllGives id (access_gains outcome loads) totals true totals
  unfolding access_gains
  access-done value e all =
      subst (λ (o : Outcome). BookAllGives id (access_gains o loads) totals true totals) (sym e) (books-none id totals all)

  pub access-refused : (number : ℕ) → outcome ≡ Refused number → AllWithin totals
      → BookAllGives id (access_gains outcome loads) totals true totals
  unfolding access_gains
  access-refused number e all =
      subst (λ (o : Outcome). BookAllGives id (access_gains o loads) totals true totals) (sym e) (books-none id totals all)
