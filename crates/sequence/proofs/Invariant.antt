-- The invariant of the buffer over the table words: every slot is one that a sweep keeps, and no two of a page's four slots match it
-- under one identification from 0 to 62. The start has it; a load and a sweep keep it. Assumes nothing.
use Prim.Native.Nat.{ℕ, ◌/◌, ◌%◌, ◌^◌, ◌≤◌, ◌<◌}
use mathlib.Core.Path.{◌≡◌, refl, sym, ap, ◌∙◌, subst}
use mathlib.Core.Logic.{◌⊎◌, inl, inr, ⊎_elim, ◌≢◌}
use mathlib.Core.Bool.{Bool, true, false, cond}
use mathlib.Core.List.{List}
use native.Mathlib.Omega.{arith}
use native.Mathlib.Nat.{mod-eq_of_lt}
use native.Mathlib.Decide.{ℕ_discrete}
use lib.Dec.{eqb, leb}
use borrow.Author.Tests.{eqb-true, eq-eqb, le-leb}
use Rattle.runs.specs.Counts.{lowest}
use Rattle.runs.proofs.Bools.{clash, both, and_both, or-either, or_left, or_right}
use Rattle.runs.proofs.Counts.{lowest-true, lowest-lt}
use Rattle.entry.specs.Address.{location, vpn15_of, slot_of, set_of}
use Rattle.entry.specs.Entry.{unpack, pack, EntryFits}
use Rattle.entry.specs.Empty.{empty_fields, empty_entry}
use Rattle.entry.proofs.Fields.{pack-lt, slot_lt}
use Rattle.entry.proofs.RoundTrips.{unpack-pack}
use Rattle.entry.proofs.Same.{low_same, low-self, entry-same, vpn-back}
use Rattle.entry.specs.declared.Entry.{Entry}
use Rattle.page_table.specs.Words.{leaf_valid, leaf_kernel, leaf_we, leaf_pfn}
use Rattle.page_table.specs.Walk.{walk_page}
use Rattle.page_table.proofs.Walks.{global-any, same-global}
use Rattle.page_table.specs.declared.Found.{Found}
use Rattle.page_table.specs.declared.Walk.{Walk}
use Rattle.page_table.specs.declared.Walk.TheVariants.{Leaf, Absent, Broken}
use Rattle.slots.specs.Buffer.{Buffer, buffer_fits, slot_at}
use Rattle.slots.specs.Start.{start_buffer}
use Rattle.slots.proofs.Start.{start-at}
use Rattle.tlb.specs.Hit.{vpn15_matches, id_matches_or_global, matches_page}
use Rattle.tlb.specs.Search.{fields_at}
use Rattle.tlb.specs.Load.{set_matches, load_slot, loaded_buffer}
use Rattle.tlb.proofs.Loads.{load-there, load-elsewhere}
use Rattle.store.specs.Leaf.{leaf_entry}
use Rattle.store.specs.Sweep.{is_empty, agrees_with_leaf, agrees_with_tables, kept, kept_at, swept}
use Rattle.store.proofs.KeptLaws.{leaf-fits}
use Rattle.store.proofs.Sweeps.{swept_at, empty-is, empty-kept, empty-unpacked}
use Rattle.sequence.specs.Account.{swept_entry}

pub record Inv (words : List ℕ) (b : Buffer) : Type 0 where
  pub all-kept : (slot : ℕ) → slot < 64 → kept_at words b slot ≡ true
  pub unique : (id vpn j k : ℕ) → id ≤ 62 → j < 4 → k < 4 → set_matches b id vpn j ≡ true → set_matches b id vpn k ≡ true → j ≡ k

-- ---- an entry and a leaf

-- a walk's answer is a leaf that says what an entry says
pub record LeafFor (x : Walk) (f : Entry) : Type 0 where
  pub found : Found
  pub is : x ≡ Leaf found
  pub global : f.global ≡ found.global
  pub valid : f.valid ≡ leaf_valid found.word
  pub kernel : f.kernel ≡ leaf_kernel found.word
  pub we : f.we ≡ leaf_we found.word
  pub pfn : f.pfn ≡ leaf_pfn found.word

leaf-for : (x : Walk) (vpn : ℕ) (f : Entry) → agrees_with_leaf x vpn f ≡ true → LeafFor x f
unfolding agrees_with_leaf leaf_entry
leaf-for (Leaf found) vpn f h =
    let s = low_same f (leaf_entry f.page_id vpn found) h in
    record { found = found; is = refl; global = s.global; valid = s.valid; kernel = s.kernel; we = s.we; pfn = s.pfn }
leaf-for (Absent s) vpn f h = absurd (clash h refl)
leaf-for (Broken s) vpn f h = absurd (clash h refl)

-- an entry's number, stored and taken apart again
pub stored-fields : (f : Entry) → EntryFits f → unpack (pack f % 2 ^ 44) ≡ f
stored-fields f h = ap unpack (mod-eq_of_lt (pack-lt f h)) ∙ unpack-pack f h

-- ---- the test `matches_page`

page-of : (id vpn : ℕ) (f : Entry) → matches_page id vpn f ≡ true → f.vpn15 ≡ vpn15_of vpn
unfolding matches_page vpn15_matches
page-of id vpn f h = eqb-true _ _ (both _ (id_matches_or_global id f) h).0

id-of : (id vpn : ℕ) (f : Entry) → matches_page id vpn f ≡ true → (f.page_id ≡ id) ⊎ (f.global ≡ true)
unfolding matches_page id_matches_or_global
id-of id vpn f h =
    ⊎_elim (λ q. inl (eqb-true f.page_id id q)) (λ q. inr q)
    (or-either (eqb f.page_id id) f.global (both (vpn15_matches vpn f) (id_matches_or_global id f) h).1)

matches : (id vpn : ℕ) (f : Entry) → f.vpn15 ≡ vpn15_of vpn → (f.page_id ≡ id) ⊎ (f.global ≡ true) → matches_page id vpn f ≡ true
unfolding matches_page vpn15_matches id_matches_or_global
matches id vpn f p (inl q) = and_both (eq-eqb _ _ p) (or_left f.global (eq-eqb _ _ q))
matches id vpn f p (inr q) = and_both (eq-eqb _ _ p) (or_right (eqb f.page_id id) q)

-- an empty slot is no page's
empty-matches : (slot id vpn : ℕ) (f : Entry) → id ≤ 62 → is_empty slot f ≡ true → matches_page id vpn f ≡ true → ⊥
unfolding is_empty empty_fields
empty-matches slot id vpn f l h q =
    let e = entry-same f (empty_fields (set_of slot)) h in
    let id63 : f.page_id ≡ 63 = ap (λ (g : Entry). g.page_id) e in
    ⊎_elim (λ (p : f.page_id ≡ id). omega arith) (λ (p : f.global ≡ true). clash p (ap (λ (g : Entry). g.global) e))
    (id-of id vpn f q)

-- two slots that are one
slot-set : (j vpn k vpn' : ℕ) → slot_of j vpn ≡ slot_of k vpn' → j ≡ k
unfolding slot_of location
slot-set j vpn k vpn' e = omega arith

slot-page : (j vpn k vpn' : ℕ) → slot_of j vpn ≡ slot_of k vpn' → vpn15_of vpn ≡ vpn15_of vpn' → vpn ≡ vpn'
unfolding slot_of location vpn15_of
slot-page j vpn k vpn' e h = omega arith

-- ---- a kept entry that matches a page says what the page's walk says

module _ (words : List ℕ) (set id vpn : ℕ) (f : Entry) (l : id ≤ 62) (k : kept words (slot_of set vpn) f ≡ true)
    (h : matches_page id vpn f ≡ true) where
  own-leaf : agrees_with_tables words (slot_of set vpn) f ≡ true → LeafFor (walk_page words f.page_id vpn) f
  unfolding agrees_with_tables vpn15_of
  own-leaf q =
      subst (λ (v : ℕ). LeafFor (walk_page words f.page_id v) f) (vpn-back set vpn f.vpn15 (page-of id vpn f h))
      (leaf-for _ _ f (both (leb f.page_id 62) _ q).1)

  under : LeafFor (walk_page words f.page_id vpn) f → (f.page_id ≡ id) ⊎ (f.global ≡ true) → LeafFor (walk_page words id vpn) f
  under x (inl q) = subst (λ (i : ℕ). LeafFor (walk_page words i vpn) f) q x
  under x (inr q) = record {
    found = x.found;
    is = global-any words vpn f.page_id id x.is (sym x.global ∙ q);
    global = x.global;
    valid = x.valid;
    kernel = x.kernel;
    we = x.we;
    pfn = x.pfn;
  }

  pub matched-leaf : LeafFor (walk_page words id vpn) f
  unfolding kept
  matched-leaf =
      ⊎_elim
      (λ (q : is_empty (slot_of set vpn) f ≡ true). absurd (empty-matches (slot_of set vpn) id vpn f l q h))
      (λ (q : agrees_with_tables words (slot_of set vpn) f ≡ true). under (own-leaf q) (id-of id vpn f h))
      (or-either _ _ k)

-- ---- a load

-- the entry of a page's leaf is kept in the page's slots
leaf-kept : (words : List ℕ) (set id vpn : ℕ) (found : Found) → id ≤ 62 → walk_page words id vpn ≡ Leaf found
    → kept words (slot_of set vpn) (leaf_entry id vpn found) ≡ true
unfolding kept agrees_with_tables agrees_with_leaf leaf_entry vpn15_of
leaf-kept words set id vpn found l leaf =
    or_right (is_empty (slot_of set vpn) (leaf_entry id vpn found)) (and_both (le-leb id 62 l) (rw (vpn-back set vpn (vpn / 16) refl) agrees))
  where
    agrees : agrees_with_leaf (walk_page words id vpn) vpn (leaf_entry id vpn found) ≡ true
    agrees = rw leaf (low-self (leaf_entry id vpn found))

module _ (words : List ℕ) (b : Buffer) (inv : Inv words b) (fits : buffer_fits b ≡ true) (id vpn draw : ℕ) (found : Found)
    (li : id ≤ 62) (lv : vpn < 2 ^ 19) (ld : draw < 4) (leaf : walk_page words id vpn ≡ Leaf found) where
  abbrev load_set : ℕ
  load_set = lowest (set_matches b id vpn) 4 draw

  abbrev target : ℕ
  target = load_slot b id vpn draw

  abbrev after : Buffer
  after = loaded_buffer b id vpn draw (pack (leaf_entry id vpn found))

  pub load-set-lt : lowest (set_matches b id vpn) 4 draw < 4
  load-set-lt = lowest-lt (set_matches b id vpn) 4 draw ld

  -- where some set matches the page, the load goes to the only one
  finds : (k : ℕ) → k < 4 → set_matches b id vpn k ≡ true → load_set ≡ k
  finds k l h =
      let s = lowest-true (set_matches b id vpn) 4 draw (k, l, h) in
      inv.unique id vpn load_set k li s.1 l s.0 h

  at_target : (slot : ℕ) → (slot ≡ target) ⊎ (slot ≢ target)
  at_target slot = elim (ℕ_discrete slot target) [ yes p ↦ inl p | no q ↦ inr q ]

  there : (slot : ℕ) → slot ≡ target → unpack (slot_at after slot) ≡ leaf_entry id vpn found
  there slot e =
      rw e (ap unpack (load-there b id vpn draw (pack (leaf_entry id vpn found)) fits ld)
      ∙ stored-fields (leaf_entry id vpn found) (leaf-fits id vpn found (omega arith) lv))

  elsewhere : (slot : ℕ) → slot ≢ target → unpack (slot_at after slot) ≡ unpack (slot_at b slot)
  elsewhere slot d = ap unpack (load-elsewhere b id vpn draw (pack (leaf_entry id vpn found)) slot d)

  pub load_fields : (slot : ℕ) → unpack (slot_at after slot) ≡ cond (eqb slot target) (leaf_entry id vpn found) (unpack (slot_at b slot))
  load_fields slot = go (eqb slot target) refl
    where
      go : (t : Bool) → eqb slot target ≡ t → unpack (slot_at after slot) ≡ cond t (leaf_entry id vpn found) (unpack (slot_at b slot))
      go true e = there slot (eqb-true slot target e)
      go false e = elsewhere slot (λ q. clash (eq-eqb slot target q) e)

  load_kept : (slot : ℕ) → slot < 64 → kept_at words after slot ≡ true
  unfolding kept_at load_slot
  load_kept slot l =
      ⊎_elim
      (λ (e : slot ≡ target). rw (there slot e) (rw e (leaf-kept words load_set id vpn found li leaf)))
      (λ (e : slot ≢ target). rw (elsewhere slot e) (inv.all-kept slot l))
      (at_target slot)

  -- an entry from before that matches the loaded page where the loaded entry does, matches it under the context too
  key : (id' k : ℕ) → id' ≤ 62 → k < 4 → matches_page id' vpn (leaf_entry id vpn found) ≡ true → set_matches b id' vpn k ≡ true
      → set_matches b id vpn k ≡ true
  unfolding set_matches fields_at kept_at leaf_entry
  key id' k l lk h q = go (id-of id' vpn (leaf_entry id vpn found) h)
    where
      f : Entry
      f = unpack (slot_at b (slot_of k vpn))

      x : LeafFor (walk_page words id' vpn) f
      x = matched-leaf words k id' vpn f l (inv.all-kept (slot_of k vpn) (slot_lt k vpn lk)) q

      go : (id ≡ id') ⊎ (found.global ≡ true) → matches_page id vpn f ≡ true
      go (inl p) = subst (λ (i : ℕ). matches_page i vpn f ≡ true) (sym p) q
      go (inr p) = matches id vpn f (page-of id' vpn f q) (inr (x.global ∙ same-global words vpn id' id x.is leaf ∙ p))

  -- the stored entry and one from before
  meets : (id' vpn' j k : ℕ) → id' ≤ 62 → k < 4 → slot_of j vpn' ≡ target → matches_page id' vpn' (leaf_entry id vpn found) ≡ true
      → set_matches b id' vpn' k ≡ true → j ≡ k
  unfolding load_slot leaf_entry
  meets id' vpn' j k l lk e h q =
      slot-set j vpn' load_set vpn e
      ∙ finds k lk
      (key id' k l lk
      (subst (λ (v : ℕ). matches_page id' v (leaf_entry id vpn found) ≡ true) same h)
      (subst (λ (v : ℕ). set_matches b id' v k ≡ true) same q))
    where
      same : vpn' ≡ vpn
      same = slot-page j vpn' load_set vpn e (sym (page-of id' vpn' (leaf_entry id vpn found) h))

  load-unique : (id' vpn' j k : ℕ) → id' ≤ 62 → j < 4 → k < 4 → set_matches after id' vpn' j ≡ true → set_matches after id' vpn' k ≡ true
      → j ≡ k
  unfolding set_matches fields_at
  load-unique id' vpn' j k l lj lk h q = go (at_target (slot_of j vpn')) (at_target (slot_of k vpn'))
    where
      go : (slot_of j vpn' ≡ target) ⊎ (slot_of j vpn' ≢ target) → (slot_of k vpn' ≡ target) ⊎ (slot_of k vpn' ≢ target) → j ≡ k
      go (inl x) (inl y) = slot-set j vpn' k vpn' (x ∙ sym y)
      go (inl x) (inr y) = meets id' vpn' j k l lk x (rw (there _ x) at h) (rw (elsewhere _ y) at q)
      go (inr x) (inl y) = sym (meets id' vpn' k j l lj y (rw (there _ y) at q) (rw (elsewhere _ x) at h))
      go (inr x) (inr y) = inv.unique id' vpn' j k l lj lk (rw (elsewhere _ x) at h) (rw (elsewhere _ y) at q)

  pub load-keeps : Inv words (loaded_buffer b id vpn draw (pack (leaf_entry id vpn found)))
  load-keeps = record { all-kept = load_kept; unique = load-unique }

  -- after the load its set matches the page
  pub load-matches : set_matches (loaded_buffer b id vpn draw (pack (leaf_entry id vpn found))) id vpn (lowest (set_matches b id vpn) 4 draw)
      ≡ true
  unfolding set_matches fields_at load_slot leaf_entry
  load-matches = rw (there (slot_of load_set vpn) refl) (matches id vpn (leaf_entry id vpn found) refl (inl refl))

-- ---- a sweep

swept_kept : (words : List ℕ) (slot : ℕ) (f : Entry) → kept words slot (swept_entry words slot f) ≡ true
unfolding swept_entry
swept_kept words slot f = go (kept words slot f) refl
  where
    go : (t : Bool) → kept words slot f ≡ t → kept words slot (cond t f (empty_fields (set_of slot))) ≡ true
    go true h = h
    go false h = empty-kept words slot

swept-matches : (words : List ℕ) (slot id vpn : ℕ) (f : Entry) → id ≤ 62 → matches_page id vpn (swept_entry words slot f) ≡ true
    → matches_page id vpn f ≡ true
unfolding swept_entry
swept-matches words slot id vpn f l h = go (kept words slot f) h
  where
    go : (t : Bool) → matches_page id vpn (cond t f (empty_fields (set_of slot))) ≡ true → matches_page id vpn f ≡ true
    go true q = q
    go false q = absurd (empty-matches slot id vpn (empty_fields (set_of slot)) l (empty-is slot) q)

module _ (words : List ℕ) (b : Buffer) (fits : buffer_fits b ≡ true) where
  pub swept-fields : (slot : ℕ) → slot < 64 → unpack (slot_at (swept words b) slot) ≡ swept_entry words slot (unpack (slot_at b slot))
  unfolding swept_entry kept_at
  swept-fields slot l = ap unpack (swept_at words b slot fits l) ∙ go (kept words slot (unpack (slot_at b slot)))
    where
      go : (t : Bool) → unpack (cond t (slot_at b slot) (empty_entry (set_of slot)))
          ≡ cond t (unpack (slot_at b slot)) (empty_fields (set_of slot))
      go true = refl
      go false = empty-unpacked slot l

  -- whatever the words were before
  pub sweep-keeps : (old : List ℕ) → Inv old b → Inv words (swept words b)
  unfolding kept_at set_matches fields_at
  sweep-keeps old inv = record {
    all-kept = λ slot l. rw (swept-fields slot l) (swept_kept words slot (unpack (slot_at b slot)));
    unique = λ id vpn j k l lj lk h q. inv.unique id vpn j k l lj lk (was id vpn j l lj h) (was id vpn k l lk q);
  }
    where
      was : (id vpn set : ℕ) → id ≤ 62 → set < 4 → matches_page id vpn (unpack (slot_at (swept words b) (slot_of set vpn))) ≡ true
          → matches_page id vpn (unpack (slot_at b (slot_of set vpn))) ≡ true
      was id vpn set l ls h =
          swept-matches words (slot_of set vpn) id vpn _ l (rw (swept-fields (slot_of set vpn) (slot_lt set vpn ls)) at h)

-- ---- the start

pub start-fields : (b : Buffer) (slot : ℕ) → buffer_fits b ≡ true → slot < 64
    → unpack (slot_at (start_buffer b) slot) ≡ empty_fields (set_of slot)
start-fields b slot f l = ap unpack (start-at b slot f l) ∙ empty-unpacked slot l

pub start-inv : (words : List ℕ) (b : Buffer) → buffer_fits b ≡ true → Inv words (start_buffer b)
unfolding kept_at set_matches fields_at
start-inv words b f = record {
  all-kept = λ slot l. rw (start-fields b slot f l) (empty-kept words slot);
  unique = λ id vpn j k l lj lk h q.
      absurd
      (empty-matches (slot_of j vpn) id vpn (empty_fields (set_of (slot_of j vpn))) l (empty-is (slot_of j vpn))
      (rw (start-fields b (slot_of j vpn) f (slot_lt j vpn lj)) at h));
}
