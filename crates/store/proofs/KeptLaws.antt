-- The ways through the test that keeps a slot, and the turns of the sweep. Assumes nothing.
use Prim.Native.Nat.{ℕ, ◌+◌, ◌*◌, ◌/◌, ◌%◌, ◌^◌, ◌≤◌, ◌<◌}
use mathlib.Core.Path.{◌≡◌, refl, sym, ap, ◌∙◌, subst}
use mathlib.Core.Bool.{Bool, true, false, cond, not, ◌&&◌, ◌||◌}
use mathlib.Core.List.{List}
use native.Mathlib.Numerals.{add-one}
use native.Mathlib.Omega.{arith}
use lib.Dec.{eqb, leb}
use lib.ListN.{length}
use borrow.Author.Tests.{eq-eqb, ne_eqb, leb-true, le-leb, lt-leb}
use Rattle.runs.specs.Bits.{bit}
use Rattle.runs.specs.Counts.{count}
use Rattle.runs.proofs.Bits.{bits-low, bit_le}
use Rattle.runs.proofs.Counts.{count-le}
use Rattle.entry.specs.Address.{vpn15_of, set_of, vpn_at}
use Rattle.entry.specs.Entry.{unpack, pack, EntryFits}
use Rattle.entry.specs.declared.Entry.{Entry}
use Rattle.entry.specs.Empty.{empty_fields, empty_entry}
use Rattle.entry.proofs.Fields.{empty-fits, unpack-fits}
use Rattle.entry.proofs.Same.{same_number, same_rest, vpn-at-lt}
use Rattle.page_table.specs.Words.{leaf_valid, leaf_kernel, leaf_we, leaf_pfn}
use Rattle.page_table.specs.Walk.{walk_page}
use Rattle.page_table.specs.declared.Found.{Found}
use Rattle.page_table.specs.declared.Walk.{Walk}
use Rattle.page_table.specs.declared.Walk.TheVariants.{Leaf, Absent, Broken}
use Rattle.slots.specs.Buffer.{Buffer, buffer_fits, slot_at, with_slot}
use Rattle.slots.specs.Buffer.Buffer.{Wide}
use Rattle.slots.proofs.Slots.{fits-length, slot_lt}
use Rattle.store.specs.Leaf.{leaf_entry}
use Rattle.store.specs.Sweep.{is_empty, agrees_with_leaf, agrees_with_tables, kept, kept_at, swept_slot, swept_first, swept, emptied}
use Rattle.store.specs.Sweep.{SweepGives, settled, goes}
use Rattle.store.specs.Claims.{page_of, claim_of, PageOf}
use Rattle.store.specs.declared.Claim.{Claim}
use Rattle.store.specs.declared.Claim.TheVariants.{Nothing, Void, Of}
use Rattle.store.specs.declared.Page.{Page}
use Rattle.store.proofs.Sweeps.{first_fits, kept-not-reached}

-- the fields that the code takes from a leaf's word
pub leaf_fields : (id vpn : ℕ) (f : Found)
    → record {
      vpn15 = vpn / 16;
      page_id = id;
      global = f.global;
      valid = eqb (f.word / 2 ^ 30 % 2) 1;
      kernel = eqb (f.word / 2 ^ 29 % 2) 1;
      we = eqb (f.word / 2 ^ 28 % 2) 1;
      pfn = f.word % 524288;
    }
    ≡ leaf_entry id vpn f
unfolding leaf_entry vpn15_of leaf_valid leaf_kernel leaf_we leaf_pfn
leaf_fields id vpn f = rw (bits-low 18 f.word)

pub leaf-fits : (id vpn : ℕ) (f : Found) → id < 64 → vpn < 524288 → EntryFits (leaf_entry id vpn f)
unfolding leaf_entry vpn15_of leaf_pfn
leaf-fits id vpn f h l = record { vpn15-fits = omega arith; page-id-fits = omega arith; pfn-fits = omega arith }

-- the page of an entry in a slot
pub page-lt : (e slot vpn15 : ℕ) → vpn15 ≡ (unpack e).vpn15 → 16 * vpn15 + slot % 16 < 524288
unfolding vpn_at
page-lt e slot vpn15 q = vpn-at-lt slot vpn15 (subst (λ (v : ℕ). v < 2 ^ 15) (sym q) (unpack-fits e).vpn15-fits)

-- an entry against the walk of its page
module _ (e : ℕ) (page : Page) (p : PageOf (unpack e) page) where
  pub agrees-none : (found : Walk) → ((leaf : Found) → found ≡ Leaf leaf → ⊥) → false ≡ agrees_with_leaf found page.vpn (unpack e)
  unfolding agrees_with_leaf
  agrees-none (Leaf f) k = absurd (k f refl)
  agrees-none (Absent s) k = refl
  agrees-none (Broken s) k = refl

  pub agrees-leaf : (found : Walk) (leaf : Found) (n : ℕ) → found ≡ Leaf leaf → e < 2 ^ 44
      → n ≡ pack (leaf_entry page.id page.vpn leaf)
      → eqb e n ≡ agrees_with_leaf found page.vpn (unpack e)
  unfolding agrees_with_leaf leaf_entry
  agrees-leaf found leaf n fq h nq =
      ap (eqb e) nq
      ∙ same_number e own h (leaf-fits page.id page.vpn leaf (omega (arith, p.id-known)) p.vpn-fits)
      ∙ same_rest (unpack e) own p.vpn15-is (sym p.id-is)
      ∙ rw (fq, ← p.id-is)
    where
      own : Entry
      own = leaf_entry page.id page.vpn leaf

-- the three claims, as the code makes them
module _ (slot e n : ℕ) (l : slot < 64) (h : e < 2 ^ 44) (nq : n ≡ empty_entry (slot / 16)) where
  empty-test : eqb e n ≡ is_empty slot (unpack e)
  unfolding is_empty empty_entry set_of
  empty-test = ap (eqb e) nq ∙ same_number e (empty_fields (slot / 16)) h (empty-fits (slot / 16) (omega arith))

  pub claims-nothing : e ≡ n → Nothing ≡ claim_of slot (unpack e)
  unfolding claim_of
  claims-nothing q = sym (rw (sym empty-test ∙ eq-eqb e n q))

  module _ (d : e ≡ n → ⊥) (id : ℕ) (iq : id ≡ (unpack e).page_id) where
    full : is_empty slot (unpack e) ≡ false
    full = sym empty-test ∙ ne_eqb e n d

    pub claims-void : 62 < id → Void ≡ claim_of slot (unpack e)
    unfolding claim_of
    claims-void m = sym (rw (full, ← iq, lt-leb id 62 m))

    pub claims-page : id ≤ 62 → (vpn15 : ℕ) → vpn15 ≡ (unpack e).vpn15
        → Of (record { id = id; vpn = 16 * vpn15 + slot % 16 }) ≡ claim_of slot (unpack e)
    unfolding claim_of page_of vpn_at
    claims-page m vpn15 vq = sym (rw (full, ← iq, ← vq, le-leb id 62 m))

-- whether the tables give what is claimed
unfoldable granted : (words : List ℕ) → Entry → Claim → Bool
granted words f Nothing = true
granted words f Void = false
granted words f (Of page) = agrees_with_leaf (walk_page words page.id page.vpn) page.vpn f

-- a slot is kept, whatever the tables are, if they give what its entry claims
claim-judged : (words : List ℕ) (slot : ℕ) (f : Entry) → granted words f (claim_of slot f) ≡ kept words slot f
unfolding granted claim_of page_of kept agrees_with_tables
claim-judged words slot f = go (is_empty slot f) (leb f.page_id 62)
  where
    page : Page
    page = page_of slot f

    go : (empty known : Bool)
        → granted words f (cond empty Nothing (cond known (Of page) Void))
        ≡ empty || (known && agrees_with_leaf (walk_page words page.id page.vpn) page.vpn f)
    go true known = refl
    go false true = refl
    go false false = refl

-- a page that an entry claims is the entry's
unfoldable Paged : Entry → Claim → Type 0
Paged f Nothing = Unit {0}
Paged f Void = Unit {0}
Paged f (Of page) = PageOf f page

claim-paged : (slot e : ℕ) → Paged (unpack e) (claim_of slot (unpack e))
unfolding Paged claim_of page_of vpn15_of vpn_at
claim-paged slot e = go (is_empty slot f) (leb f.page_id 62) refl
  where
    f : Entry
    f = unpack e

    go : (empty known : Bool) → leb f.page_id 62 ≡ known → Paged f (cond empty Nothing (cond known (Of (page_of slot f)) Void))
    go true known q = tt
    go false true q = record {
      id-is = refl;
      id-known = leb-true f.page_id 62 q;
      vpn15-is = let k : f.vpn15 ≡ (16 * f.vpn15 + slot % 16) / 16 = omega arith in k;
      vpn-fits = page-lt e slot f.vpn15 refl;
    }
    go false false q = tt

-- a slot by its entry's claim
module _ (slot e : ℕ) (c : Claim) (q : c ≡ claim_of slot (unpack e)) where
  claim-is : (words : List ℕ) (d : Claim) → c ≡ d → granted words (unpack e) d ≡ kept words slot (unpack e)
  claim-is words d p = ap (granted words (unpack e)) (sym p ∙ q) ∙ claim-judged words slot (unpack e)

  pub kept-nothing : (words : List ℕ) → c ≡ Nothing → true ≡ kept words slot (unpack e)
  unfolding granted
  kept-nothing words p = claim-is words Nothing p

  pub kept-void : (words : List ℕ) → c ≡ Void → false ≡ kept words slot (unpack e)
  unfolding granted
  kept-void words p = claim-is words Void p

  module _ (page : Page) (p : c ≡ Of page) where
    pub claimed-page : PageOf (unpack e) page
    unfolding Paged
    claimed-page = subst (Paged (unpack e)) (sym q ∙ p) (claim-paged slot e)

    pub kept-page : (words : List ℕ) (found : Walk) (t : Bool) → found ≡ walk_page words page.id page.vpn
        → t ≡ agrees_with_leaf found page.vpn (unpack e) → t ≡ kept words slot (unpack e)
    unfolding granted
    kept-page words found t wq tq = tq ∙ rw wq (claim-is words (Of page) p)

pub entry_lt : (b : Buffer) (slot e : ℕ) → e ≡ slot_at b slot → e < 2 ^ 44
entry_lt b slot e q = subst (λ (n : ℕ). n < 2 ^ 44) (sym q) (slot_lt b slot)

-- so many slots are swept, and of these so many were emptied
pub record Sweeping (words : List ℕ) (b now : Buffer) (number slot : ℕ) : Type 0 where
  pub in-range : slot ≤ 64
  pub swept-so-far : now ≡ swept_first words slot b
  pub number-so-far : number ≡ count (λ s. not (kept_at words b s)) slot

pub sweep-begin : (words : List ℕ) (b : Buffer) → Sweeping words b b 0 0
unfolding swept_first count
sweep-begin words b = record { in-range = omega arith; swept-so-far = refl; number-so-far = refl }

module _ (words : List ℕ) (b now : Buffer) (number slot : ℕ) (s : Sweeping words b now number slot) where
  pub sweep-fits : buffer_fits b ≡ true → buffer_fits now ≡ true
  sweep-fits h = ap buffer_fits s.swept-so-far ∙ first_fits words slot b ∙ h

  pub number-le : number ≤ slot
  number-le = subst (λ (n : ℕ). n ≤ slot) (sym s.number-so-far) (count-le (λ k. not (kept_at words b k)) slot)

  pub sweep-end : 64 ≤ slot → SweepGives words b now number
  unfolding swept emptied
  sweep-end l = let e : slot ≡ 64 = (let r = s.in-range in omega arith) in record {
    number_is = s.number-so-far ∙ ap (count (λ k. not (kept_at words b k))) e;
    buffer-is = s.swept-so-far ∙ ap (λ (k : ℕ). swept_first words k b) e;
  }

  pub same-run : (old numbers : List ℕ) → b ≡ Wide old → now ≡ Wide numbers → buffer_fits b ≡ true → length numbers ≡ length old
  same-run old numbers bq nq h =
      fits-length numbers (ap buffer_fits (sym nq) ∙ sweep-fits h) ∙ sym (fits-length old (ap buffer_fits (sym bq) ∙ h))

  -- one slot more, by what the test on its entry gave
  module _ (e : ℕ) (t : Bool) (l : slot < 64) (eq : e ≡ slot_at now slot) (tq : t ≡ kept words slot (unpack e)) where
    now-kept : t ≡ kept_at words now slot
    unfolding kept_at
    now-kept = tq ∙ ap (λ (n : ℕ). kept words slot (unpack n)) eq

    old-kept : t ≡ kept_at words b slot
    old-kept = now-kept ∙ ap (λ (x : Buffer). kept_at words x slot) s.swept-so-far ∙ kept-not-reached words slot slot b (omega arith)

    pub sweep-turn : (after : Buffer) (n : ℕ) → after ≡ settled t slot now → n ≡ goes t → Sweeping words b after (number + n) (slot + 1)
    unfolding swept_first swept_slot count goes
    sweep-turn after n aq nq = rw (add-one slot) (record {
      in-range = l;
      swept-so-far =
          aq
          ∙ ap (λ (k : Bool). settled k slot now) now-kept
          ∙ ap (swept_slot words slot) s.swept-so-far;
      number-so-far =
          ap (λ (m : ℕ). number + m) nq
          ∙ ap (λ (m : ℕ). m + bit (not t)) s.number-so-far
          ∙ ap (λ (k : Bool). count (λ j. not (kept_at words b j)) slot + bit (not k)) old-kept;
    })

-- a slot that is settled
pub goes-le : (keep : Bool) (n : ℕ) → n ≡ goes keep → n ≤ 1
unfolding goes
goes-le keep n e = omega (arith, e, bit_le (not keep))

module _ (keep : Bool) (slot : ℕ) (b : Buffer) where
  pub stays : keep ≡ true → (0 ≡ goes keep) × (b ≡ settled keep slot b)
  unfolding goes settled
  stays e = (sym (rw e), sym (rw e))

  pub empties : keep ≡ false → (empty : ℕ) (after : Buffer) → empty ≡ empty_entry (slot / 16) → after ≡ with_slot b slot empty
      → (1 ≡ goes keep) × (after ≡ settled keep slot b)
  unfolding goes settled set_of
  empties e empty after xq aq = (sym (rw e), aq ∙ rw (xq, e))
