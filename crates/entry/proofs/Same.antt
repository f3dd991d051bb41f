-- Entries with the same fields, and their numbers. Assumes nothing.
use Prim.Native.Nat.{ℕ, ◌/◌, ◌^◌, ◌<◌}
use mathlib.Core.Path.{◌≡◌, refl, sym, ap, ◌∙◌, subst}
use mathlib.Core.Bool.{Bool, true, false, ◌&&◌, beq}
use native.Mathlib.Nat.{mod-eq_of_lt}
use native.Mathlib.Omega.{arith}
use lib.Dec.{eqb}
use borrow.Author.Tests.{eqb-true, eq-eqb}
use Rattle.runs.proofs.Bools.{both, and_both, same_test}
use Rattle.entry.specs.Address.{location, slot_of, vpn_at}
use Rattle.entry.specs.Entry.{unpack, pack, EntryFits, same_low, same_entry}
use Rattle.entry.specs.declared.Entry.{Entry}
use Rattle.entry.proofs.RoundTrips.{unpack-pack, pack-unpack}

beq-true : (a b : Bool) → beq a b ≡ true → a ≡ b
beq-true true true h = refl
beq-true false false h = refl
beq-true true false h = sym h
beq-true false true h = h

beq_same : (a : Bool) → beq a a ≡ true
beq_same true = refl
beq_same false = refl

-- the fields that `same_low` compares
pub record LowSame (f g : Entry) : Type 0 where
  pub global : f.global ≡ g.global
  pub valid : f.valid ≡ g.valid
  pub kernel : f.kernel ≡ g.kernel
  pub we : f.we ≡ g.we
  pub pfn : f.pfn ≡ g.pfn

pub low_same : (f g : Entry) → same_low f g ≡ true → LowSame f g
unfolding same_low
low_same f g h =
    let four = both _ (eqb f.pfn g.pfn) h in
    let three = both _ (beq f.we g.we) four.0 in
    let two = both _ (beq f.kernel g.kernel) three.0 in
    let one = both (beq f.global g.global) (beq f.valid g.valid) two.0 in
    record {
      global = beq-true _ _ one.0;
      valid = beq-true _ _ one.1;
      kernel = beq-true _ _ two.1;
      we = beq-true _ _ three.1;
      pfn = eqb-true _ _ four.1;
    }

pub low-self : (f : Entry) → same_low f f ≡ true
unfolding same_low
low-self f =
    and_both
    (and_both (and_both (and_both (beq_same f.global) (beq_same f.valid)) (beq_same f.kernel)) (beq_same f.we))
    (eq-eqb f.pfn f.pfn refl)

pub same_self : (f : Entry) → same_entry f f ≡ true
unfolding same_entry
same_self f = and_both (and_both (eq-eqb f.vpn15 f.vpn15 refl) (eq-eqb f.page_id f.page_id refl)) (low-self f)

-- where vpn15 and page_id are the same, the other five decide
pub same_rest : (f g : Entry) → f.vpn15 ≡ g.vpn15 → f.page_id ≡ g.page_id → same_entry f g ≡ same_low f g
unfolding same_entry
same_rest f g p q = rw (eq-eqb f.vpn15 g.vpn15 p, eq-eqb f.page_id g.page_id q)

pub entry-same : (f g : Entry) → same_entry f g ≡ true → f ≡ g
unfolding same_entry
entry-same f g h =
    let front = both (eqb f.vpn15 g.vpn15 && eqb f.page_id g.page_id) (same_low f g) h in
    let ids = both (eqb f.vpn15 g.vpn15) (eqb f.page_id g.page_id) front.0 in
    let low = low_same f g front.1 in
    λ j. record {
      vpn15 = eqb-true f.vpn15 g.vpn15 ids.0 j;
      page_id = eqb-true f.page_id g.page_id ids.1 j;
      global = low.global j;
      valid = low.valid j;
      kernel = low.kernel j;
      we = low.we j;
      pfn = low.pfn j;
    }

-- a number of 44 bits is that of the fields f exactly where its fields are f
pub same_number : (e : ℕ) (f : Entry) → e < 2 ^ 44 → EntryFits f → eqb e (pack f) ≡ same_entry (unpack e) f
same_number e f l h = same_test (eqb e (pack f)) (same_entry (unpack e) f) to from
  where
    to : eqb e (pack f) ≡ true → same_entry (unpack e) f ≡ true
    to q =
        subst (λ (g : Entry). same_entry g f ≡ true) (sym (ap unpack (eqb-true e (pack f) q) ∙ unpack-pack f h)) (same_self f)

    from : same_entry (unpack e) f ≡ true → eqb e (pack f) ≡ true
    from q = eq-eqb e (pack f) (sym (mod-eq_of_lt l) ∙ sym (pack-unpack e) ∙ ap pack (entry-same (unpack e) f q))

-- the page of an entry in one of a page's own slots
pub vpn-back : (set vpn vpn15 : ℕ) → vpn15 ≡ vpn / 16 → vpn_at (slot_of set vpn) vpn15 ≡ vpn
unfolding vpn_at slot_of location
vpn-back set vpn vpn15 e = omega arith

pub vpn-at-lt : (slot vpn15 : ℕ) → vpn15 < 2 ^ 15 → vpn_at slot vpn15 < 2 ^ 19
unfolding vpn_at
vpn-at-lt slot vpn15 l = omega arith
