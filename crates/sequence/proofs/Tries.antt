-- One raw access, out of test mode: when it misses, which registers it leaves, and, over a buffer with the invariant, what it answers for a
-- page that the buffer has: what the reader answers for the page's leaf. Assumes nothing.
use Prim.Native.Nat.{ℕ, zero, suc, ◌+◌, ◌*◌, ◌≤◌, ◌<◌}
use mathlib.Core.Path.{◌≡◌, refl, sym, ap, ◌∙◌, subst}
use mathlib.Core.Bool.{Bool, true, false, cond, not, ◌&&◌, ◌||◌}
use mathlib.Core.List.{List}
use lib.Dec.{eqb, eqb-suc-zero}
use Rattle.std.specs.Prelude.{Option, Some, None}
use Rattle.runs.specs.Bits.{bit}
use Rattle.runs.proofs.Bools.{is_false, clash, both, and_both}
use Rattle.runs.proofs.Counts.{count_none, count-one, lowest-one}
use Rattle.entry.specs.Address.{vpn_of, slot_of}
use Rattle.entry.proofs.Fields.{slot_lt}
use Rattle.entry.specs.declared.Entry.{Entry}
use Rattle.registers.specs.Fields.{to_words, from_words, put}
use Rattle.registers.specs.declared.Access.{Access}
use Rattle.registers.specs.declared.Outcome.{Outcome}
use Rattle.registers.specs.declared.Outcome.TheVariants.{At, Fault}
use Rattle.registers.specs.declared.Registers.{Registers}
use Rattle.page_table.specs.Words.{leaf_valid, leaf_kernel, leaf_we, leaf_pfn}
use Rattle.page_table.specs.Walk.{walk_page}
use Rattle.page_table.specs.Faults.{walk_fault}
use Rattle.page_table.specs.declared.Found.{Found}
use Rattle.page_table.specs.declared.Walk.TheVariants.{Leaf}
use Rattle.slots.specs.Buffer.{Buffer}
use Rattle.tlb.specs.Hit.{valid_or_inv_exc, matches_page, hit}
use Rattle.tlb.specs.Search.{fields_at, set_hits, hit_count, hit_set}
use Rattle.tlb.specs.Load.{set_matches}
use Rattle.access.specs.Segments.{in_linear_segment, linear_address}
use Rattle.access.specs.Exceptions.{inv_exc, write_error, access_violation, invalid_page, exception_value, MISS}
use Rattle.access.specs.Translation.{page_address, is_set, no_exception, with_cause, exception_address, exception_answer, hit_value, on_hit}
use Rattle.access.specs.Translation.{by_hit_count, found_set, page_mapped, translate}
use Rattle.access.specs.declared.Translation.{Translation}
use Rattle.store.specs.Sweep.{kept_at}
use Rattle.mmu.specs.ServedAccess.{outcome_of, missed}
use Rattle.sequence.specs.Reader.{settings_of, leaf_answer}
use Rattle.sequence.proofs.Invariant.{Inv, LeafFor, matched-leaf}

-- the address or fault value of a raw access
unfoldable pub told : Translation → Outcome
told t = outcome_of t.physical t.value

-- the registers that no access changes: the guarded settings and the test mode
pub record Kept (q r : Registers) : Type 0 where
  pub settings : settings_of q ≡ settings_of r
  pub test : q.test ≡ r.test

pub kept_self : (r : Registers) → Kept r r
kept_self r = record { settings = refl; test = refl }

pub kept_then : {p q r : Registers} → Kept p q → Kept q r → Kept p r
kept_then x y = record { settings = x.settings ∙ y.settings; test = x.test ∙ y.test }

cause-keeps : (r : Registers) (a : Access) (slot value : ℕ) → Kept (with_cause r a slot value) r
unfolding with_cause put to_words from_words settings_of
cause-keeps r a slot value = record { settings = refl; test = refl }

module _ (r : Registers) (b : Buffer) (a : Access) where
  pub try-linear : in_linear_segment r.kseg a ≡ true
      → translate r b a
      ≡ no_exception r (cond (is_set r.enable) (linear_address r.kbase_lo r.kbase_hi a.address) a.address)
  unfolding translate
  try-linear h = rw h

  pub try-mapped : in_linear_segment r.kseg a ≡ false → is_set r.enable ≡ true → translate r b a ≡ page_mapped r b a
  unfolding translate
  try-mapped h e = rw (h, e)

  pub try-off : in_linear_segment r.kseg a ≡ false → is_set r.enable ≡ false → is_set r.test ≡ false
      → translate r b a ≡ no_exception r a.address
  unfolding translate
  try-off h e t = rw (h, e, t)

  -- ---- when it misses

  sum-not-miss : (x y z : Bool) → eqb (bit x + 2 * bit y + 4 * bit z) MISS ≡ false
  sum-not-miss true true true = refl
  sum-not-miss true true false = refl
  sum-not-miss true false true = refl
  sum-not-miss true false false = refl
  sum-not-miss false true true = refl
  sum-not-miss false true false = refl
  sum-not-miss false false true = refl
  sum-not-miss false false false = refl

  value-not-miss : (f : Entry) → eqb (hit_value r a f) MISS ≡ false
  unfolding hit_value exception_value
  value-not-miss f =
      sum-not-miss (write_error r.ctrl a f.we) (access_violation r.ctrl a f.kernel) (invalid_page r.ctrl f.valid)

  none-missed : (address : ℕ) → missed (no_exception r address) ≡ false
  unfolding no_exception missed
  none-missed address = refl

  pub hit-missed : (slot : ℕ) (f : Entry) → missed (on_hit r a slot f) ≡ false
  unfolding on_hit missed no_exception exception_answer
  hit-missed slot f = go (eqb (hit_value r a f) 0)
    where
      frame : ℕ
      frame = page_address f.pfn a.address

      go : (t : Bool) → missed
          (cond t
          (no_exception r (cond (is_set r.enable) frame a.address))
          (exception_answer r a slot (hit_value r a f) (Some frame)))
          ≡ false
      go true = refl
      go false = value-not-miss f

  count-missed : (hits set : ℕ) (f : Entry) → missed (by_hit_count hits r a set f) ≡ eqb hits 0
  unfolding by_hit_count missed exception_answer
  count-missed zero set f = refl
  count-missed (suc zero) set f = hit-missed (slot_of set (vpn_of a.address)) f
  count-missed (suc (suc n)) set f = sym (eqb-suc-zero (suc n))

  mapped-missed : missed (page_mapped r b a) ≡ eqb (hit_count b (inv_exc r.ctrl) r.context (vpn_of a.address)) 0
  unfolding page_mapped
  mapped-missed = count-missed _ _ _

  -- enabled, not linear, no hit
  pub try-missed : is_set r.test ≡ false
      → missed (translate r b a)
      ≡ (is_set r.enable && not (in_linear_segment r.kseg a)
      && eqb (hit_count b (inv_exc r.ctrl) r.context (vpn_of a.address)) 0)
  unfolding translate
  try-missed t = go (is_set r.enable) (in_linear_segment r.kseg a)
    where
      go : (e l : Bool)
          → missed
          (cond l
          (no_exception r (cond e (linear_address r.kbase_lo r.kbase_hi a.address) a.address))
          (cond (e || is_set r.test) (page_mapped r b a) (no_exception r a.address)))
          ≡ (e && not l && eqb (hit_count b (inv_exc r.ctrl) r.context (vpn_of a.address)) 0)
      go true true = none-missed _
      go true false = mapped-missed
      go false true = none-missed _
      go false false = rw t (none-missed _)

  -- ---- which registers it leaves

  answer_keeps : (slot value : ℕ) (tested : Option ℕ) → Kept (exception_answer r a slot value tested).registers r
  unfolding exception_answer
  answer_keeps slot value tested = cause-keeps r a slot value

  none-keeps : (address : ℕ) → Kept (no_exception r address).registers r
  unfolding no_exception
  none-keeps address = kept_self r

  hit-keeps : (slot : ℕ) (f : Entry) → Kept (on_hit r a slot f).registers r
  unfolding on_hit
  hit-keeps slot f = go (eqb (hit_value r a f) 0)
    where
      frame : ℕ
      frame = page_address f.pfn a.address

      go : (t : Bool) → Kept
          (cond t
          (no_exception r (cond (is_set r.enable) frame a.address))
          (exception_answer r a slot (hit_value r a f) (Some frame))).registers
          r
      go true = none-keeps _
      go false = answer_keeps _ _ _

  count-keeps : (hits set : ℕ) (f : Entry) → Kept (by_hit_count hits r a set f).registers r
  unfolding by_hit_count
  count-keeps zero set f = answer_keeps _ _ _
  count-keeps (suc zero) set f = hit-keeps (slot_of set (vpn_of a.address)) f
  count-keeps (suc (suc n)) set f = answer_keeps _ _ _

  pub try-keeps : Kept (translate r b a).registers r
  unfolding translate page_mapped
  try-keeps = go (in_linear_segment r.kseg a) (is_set r.enable || is_set r.test)
    where
      go : (l e : Bool) → Kept
          (cond l
          (no_exception r (cond (is_set r.enable) (linear_address r.kbase_lo r.kbase_hi a.address) a.address))
          (cond e (page_mapped r b a) (no_exception r a.address))).registers
          r
      go true e = none-keeps _
      go false true = count-keeps _ _ _
      go false false = none-keeps _

-- ---- what it answers

-- the exceptions of an entry or leaf with these fields, or its address
unfoldable pub verdict : (ctrl : ℕ) → Access → (valid kernel we : Bool) (pfn : ℕ) → Outcome
verdict ctrl a valid kernel we pfn =
    cond (eqb (exception_value ctrl a valid kernel we) 0) (At (page_address pfn a.address)) (Fault (exception_value ctrl a valid kernel we))

module _ (ctrl : ℕ) (a : Access) (found : Found) where
  abbrev w : ℕ
  w = found.word

  abbrev v : Outcome
  v = verdict ctrl a (leaf_valid found.word) (leaf_kernel found.word) (leaf_we found.word) (leaf_pfn found.word)

  leaf-seen : leaf_valid found.word || inv_exc ctrl ≡ true
      → leaf_answer ctrl a found
      ≡ verdict ctrl a (leaf_valid found.word) (leaf_kernel found.word) (leaf_we found.word) (leaf_pfn found.word)
  unfolding leaf_answer verdict
  leaf-seen h = go _ (leaf_valid w) (inv_exc ctrl) h
    where
      go : (u : Outcome) (x y : Bool) → x || y ≡ true → cond (not x && not y) u v ≡ v
      go u true y q = refl
      go u false true q = refl
      go u false false q = absurd (clash q refl)

  leaf-unseen : leaf_valid found.word || inv_exc ctrl ≡ false → leaf_answer ctrl a found ≡ Fault MISS
  unfolding leaf_answer verdict walk_fault
  leaf-unseen h = go (leaf_valid w) (inv_exc ctrl) h
    where
      go : (x y : Bool) → x || y ≡ false → cond (not x && not y) (Fault (walk_fault (Leaf found))) v ≡ Fault MISS
      go true y q = absurd (clash refl q)
      go false true q = absurd (clash refl q)
      go false false q = refl

module _ (r : Registers) (b : Buffer) (words : List ℕ) (a : Access) (en : is_set r.enable ≡ true) (te : is_set r.test ≡ false)
    (li : in_linear_segment r.kseg a ≡ false) where
  abbrev vpn : ℕ
  vpn = vpn_of a.address

  abbrev inv-on : Bool
  inv-on = inv_exc r.ctrl

  exception-told : (slot value : ℕ) (tested : Option ℕ) → told (exception_answer r a slot value tested) ≡ Fault value
  unfolding told exception_answer exception_address outcome_of
  exception-told slot value tested = rw (en, te)

  hit-told : (slot : ℕ) (f : Entry) → told (on_hit r a slot f) ≡ verdict r.ctrl a f.valid f.kernel f.we f.pfn
  unfolding on_hit verdict hit_value told no_exception outcome_of
  hit-told slot f = go (eqb value 0)
    where
      value : ℕ
      value = exception_value r.ctrl a f.valid f.kernel f.we

      frame : ℕ
      frame = page_address f.pfn a.address

      go : (t : Bool)
          → told (cond t (no_exception r (cond (is_set r.enable) frame a.address)) (exception_answer r a slot value (Some frame)))
          ≡ cond t (At frame) (Fault value)
      go true = rw en
      go false = exception-told slot value (Some frame)

  pub miss-is : hit_count b (inv_exc r.ctrl) r.context (vpn_of a.address) ≡ 0
      → translate r b a ≡ exception_answer r a (slot_of a.draw (vpn_of a.address)) MISS None
  unfolding page_mapped by_hit_count
  miss-is h = try-mapped r b a li en ∙ rw h

  hit-is : (set : ℕ) → hit_count b inv-on r.context vpn ≡ 1 → found_set r b a ≡ set
      → translate r b a ≡ on_hit r a (slot_of set vpn) (fields_at b vpn set)
  unfolding page_mapped by_hit_count
  hit-is set h q = try-mapped r b a li en ∙ rw (h, q)

  -- over a buffer with the invariant, where a set matches the page
  module _ (inv : Inv words b) (lc : r.context ≤ 62) (set : ℕ) (ls : set < 4)
      (h : set_matches b r.context (vpn_of a.address) set ≡ true) where
    abbrev f : Entry
    f = fields_at b vpn set

    pub page-leaf : LeafFor (walk_page words r.context (vpn_of a.address)) (fields_at b (vpn_of a.address) set)
    unfolding fields_at set_matches kept_at
    page-leaf = matched-leaf words set r.context vpn f lc (inv.all-kept (slot_of set vpn) (slot_lt set vpn ls)) h

    only : (j : ℕ) → j < 4 → set_hits b inv-on r.context vpn j ≡ true → j ≡ set
    unfolding set_hits hit set_matches
    only j l q =
        inv.unique r.context vpn j set lc l ls
        (both (valid_or_inv_exc inv-on (fields_at b vpn j)) (matches_page r.context vpn (fields_at b vpn j)) q).1 h

    hits : valid_or_inv_exc inv-on f ≡ true → set_hits b inv-on r.context vpn set ≡ true
    unfolding set_hits hit set_matches
    hits c = and_both c h

    hits-not : valid_or_inv_exc inv-on f ≡ false → (j : ℕ) → j < 4 → set_hits b inv-on r.context vpn j ≡ false
    unfolding set_hits hit
    hits-not c j l = is_false _ (λ q.
        let k = (both (valid_or_inv_exc inv-on (fields_at b vpn j)) (matches_page r.context vpn (fields_at b vpn j)) q).0 in
        clash (subst (λ (i : ℕ). valid_or_inv_exc inv-on (fields_at b vpn i) ≡ true) (only j l q) k) c)

    pub seen-is : valid_or_inv_exc (inv_exc r.ctrl) (fields_at b (vpn_of a.address) set) ≡ true
        → translate r b a ≡ on_hit r a (slot_of set (vpn_of a.address)) (fields_at b (vpn_of a.address) set)
    unfolding hit_count hit_set found_set
    seen-is c =
        hit-is set
        (count-one (set_hits b inv-on r.context vpn) 4 set ls (hits c) only)
        (lowest-one (set_hits b inv-on r.context vpn) 4 a.draw set ls (hits c) only)

    unseen-is : valid_or_inv_exc inv-on f ≡ false → translate r b a ≡ exception_answer r a (slot_of a.draw vpn) MISS None
    unfolding hit_count
    unseen-is c = miss-is (count_none (set_hits b inv-on r.context vpn) 4 (hits-not c))

    as-leaf : (found : Found) → f.valid ≡ leaf_valid found.word → f.kernel ≡ leaf_kernel found.word → f.we ≡ leaf_we found.word
        → f.pfn ≡ leaf_pfn found.word → told (translate r b a) ≡ leaf_answer r.ctrl a found
    unfolding valid_or_inv_exc
    as-leaf found fv fk fw fp = go (valid_or_inv_exc inv-on f) refl
      where
        go : (t : Bool) → valid_or_inv_exc inv-on f ≡ t → told (translate r b a) ≡ leaf_answer r.ctrl a found
        go true c =
            ap told (seen-is c) ∙ hit-told (slot_of set vpn) f ∙ rw (fv, fk, fw, fp) (sym (leaf-seen r.ctrl a found (rw (← fv) c)))
        go false c =
            ap told (unseen-is c) ∙ exception-told (slot_of a.draw vpn) MISS None ∙ sym (leaf-unseen r.ctrl a found (rw (← fv) c))

    -- the raw access answers for the page's leaf what the reader answers
    pub try-told : (found : Found) → walk_page words r.context (vpn_of a.address) ≡ Leaf found
        → told (translate r b a) ≡ leaf_answer r.ctrl a found
    try-told found leaf =
        as-leaf page-leaf.found page-leaf.valid page-leaf.kernel page-leaf.we page-leaf.pfn
        ∙ ap (leaf_answer r.ctrl a) same
      where
        same : page-leaf.found ≡ found
        same = let q = page-leaf.is in cc
