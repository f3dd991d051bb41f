-- The counts of present words after a store, and the count of leaf words by the index. Assumes nothing.
use Prim.Native.Nat.{ℕ, ◌+◌, ◌-◌, ◌*◌, ◌/◌, ◌%◌, ◌≤◌, ◌<◌, min}
use mathlib.Core.Path.{◌≡◌, refl, sym, ap, subst, ◌∙◌}
use mathlib.Core.Bool.{Bool, true, false, ◌&&◌}
use mathlib.Core.List.{List}
use native.Mathlib.Nat.{zero-add}
use native.Mathlib.Omega.{arith}
use lib.ListN.{length, get_or, set, length-set}
use lib.Seq.{get_or-set_same, get_or-set_other}
use lib.Dec.{eqb, leb}
use borrow.Author.Tests.{eqb-true}
use Rattle.runs.specs.Bits.{bit}
use Rattle.runs.specs.Counts.{count}
use mir.Val.{bool_byte}
use Rattle.runs.proofs.Bits.{bit_le, bit_byte}
use Rattle.runs.proofs.Bools.{both, is_false, and-true, and-false}
use Rattle.runs.proofs.Counts.{count_same, count-change, count_none, count-le, count_add, count-any, any-count}
use Rattle.runs.proofs.Pieces.{tab-length, tab-at, tab-is}
use Rattle.page_table.specs.Words.{present}
use Rattle.page_table.specs.Stretches.{length_fits, tables_fit}
use Rattle.page_table.proofs.Stretches.{fit-bounds}
use Rattle.reach.specs.Reach.{directory_reached, links_to, table_reached}
use Rattle.reach.specs.Leaves.{is_leaf_word, leaf_count}
use Rattle.reach.specs.Index.{table_count, links_of, presents_of, Indexes}
use Rattle.reach.proofs.LeafLaws.{leaf-words}
use Rattle.reach.proofs.LinkLaws.{links-at, links-length}
use Rattle.reach.proofs.StoreLaws.{by_number}

-- the counts by their entries
pub presents-length : (words : List ℕ) → length (presents_of words) ≡ table_count words
unfolding presents_of
presents-length words = tab-length (λ t. count (λ k. present (get_or words (1024 * t + k) 0)) 1024) 0 (table_count words)

pub presents-at : (words : List ℕ) (t : ℕ) → t < table_count words
    → get_or (presents_of words) t 0 ≡ count (λ k. present (get_or words (1024 * t + k) 0)) 1024
unfolding presents_of
presents-at words t h =
    tab-at (λ i. count (λ k. present (get_or words (1024 * i + k) 0)) 1024) 0 (table_count words) t h
    ∙ ap (λ (i : ℕ). count (λ k. present (get_or words (1024 * i + k) 0)) 1024) (zero-add t)

-- the run is whole tables
pub fit-whole : (words : List ℕ) → tables_fit words ≡ true → 1024 * table_count words ≡ length words
unfolding tables_fit length_fits table_count
fit-whole words h =
    let l = both (leb 1024 (length words) && leb (length words) 67108864) (eqb (length words % 1024) 0) h in
    let e : length words % 1024 ≡ 0 = eqb-true (length words % 1024) 0 l.1 in
    omega arith

pub table-inside : (words : List ℕ) (i : ℕ) → tables_fit words ≡ true → i < length words → i / 1024 < table_count words
table-inside words i h l = let e = fit-whole words h in omega arith

-- two runs that agree but for one word
module _ (a words : List ℕ) (i : ℕ) (long : length a ≡ length words) (others : (r : ℕ) → (r ≡ i → ⊥) → get_or a r 0 ≡ get_or words r 0)
    (fits : tables_fit words ≡ true) (inside : i < length words) where
  same_count : table_count a ≡ table_count words
  unfolding table_count
  same_count = ap (λ (n : ℕ). n / 1024) long

  recounted : count (λ k. present (get_or a (1024 * (i / 1024) + k) 0)) 1024 + bit (present (get_or words i 0))
      ≡ count (λ k. present (get_or words (1024 * (i / 1024) + k) 0)) 1024 + bit (present (get_or a i 0))
  recounted =
      let at : 1024 * (i / 1024) + i % 1024 ≡ i = omega arith in
      subst (λ (x : ℕ). count (λ k. present (get_or a (1024 * (i / 1024) + k) 0)) 1024 + bit (present (get_or words x 0))
      ≡ count (λ k. present (get_or words (1024 * (i / 1024) + k) 0)) 1024 + bit (present (get_or a x 0))) at
      (count-change (λ k. present (get_or a (1024 * (i / 1024) + k) 0)) (λ k. present (get_or words (1024 * (i / 1024) + k) 0)) 1024 (i % 1024)
      (omega arith) (λ k l ne. ap present (others (1024 * (i / 1024) + k) (λ q. ne (omega arith)))))

  -- as the code has them: `more` and `fewer` are 1 or 0
  module _ (presents : List ℕ) (e : presents ≡ presents_of a) (table more fewer : ℕ) (here : table ≡ i / 1024)
      (new : more ≡ bit (present (get_or words i 0))) (old : fewer ≡ bit (present (get_or a i 0))) where
    pub recount-inside : table < length presents
    recount-inside = rw (e, presents-length a, same_count, here) (table-inside words i fits inside)

    was : get_or presents table 0 ≡ count (λ k. present (get_or a (1024 * (i / 1024) + k) 0)) 1024
    was = rw (e, here) (presents-at a (i / 1024) (rw same_count (table-inside words i fits inside)))

    pub recount-fits : (get_or presents table 0 + more < 4294967296) × (fewer ≤ get_or presents table 0 + more)
    recount-fits =
        let w = was in
        let r = recounted in
        let c = count-le (λ k. present (get_or a (1024 * (i / 1024) + k) 0)) 1024 in
        let b = bit_le (present (get_or words i 0)) in
        (omega arith, omega arith)

    pub recount-is : set presents table (get_or presents table 0 + more - fewer) ≡ presents_of words
    unfolding presents_of
    recount-is =
        tab-is (λ t. count (λ k. present (get_or words (1024 * t + k) 0)) 1024) (table_count words)
        (set presents table (get_or presents table 0 + more - fewer))
        (length-set presents table (get_or presents table 0 + more - fewer) ∙ ap length e ∙ presents-length a ∙ same_count)
        (λ t l.
        by_number (get_or (set presents table (get_or presents table 0 + more - fewer)) t 0
        ≡ count (λ k. present (get_or words (1024 * t + k) 0)) 1024) t table
        (λ q.
        let w = was in
        let r = recounted in
        subst (λ (x : ℕ). get_or (set presents table (get_or presents table 0 + more - fewer)) x 0
        ≡ count (λ k. present (get_or words (1024 * x + k) 0)) 1024) (sym q)
        (get_or-set_same presents table (get_or presents table 0 + more - fewer) 0 recount-inside ∙ rw here (rw here at changed)))
        (λ ne.
        get_or-set_other presents table t (get_or presents table 0 + more - fewer) 0 ne
        ∙ rw e (presents-at a t (rw same_count l))
        ∙ count_same (λ k. present (get_or a (1024 * t + k) 0)) (λ k. present (get_or words (1024 * t + k) 0)) 1024
        (λ k kl. ap present (others (1024 * t + k) (λ q. ne (omega arith))))))
      where
        changed : get_or presents table 0 + more - fewer ≡ count (λ k. present (get_or words (1024 * (i / 1024) + k) 0)) 1024
        changed = let w = was in let r = recounted in omega arith

-- a loop over the tables: the leaf words of the first t are counted
pub record Counted (words : List ℕ) (leaves t : ℕ) : Type 0 where
  pub some : t ≤ table_count words
  pub same : leaves ≡ count (is_leaf_word words) (1024 * t)

pub counted_none : (words : List ℕ) → Counted words 0 0
unfolding count
counted_none words = record { some = omega arith; same = refl }

module _ (words links presents : List ℕ) (fits : tables_fit words ≡ true) (index : Indexes words links presents) where
  index-long : (length links ≡ table_count words) × (length presents ≡ table_count words)
  unfolding links_of
  index-long = (
    rw (index.links-are, links-length (λ j. directory_reached words (j / 512)) words),
    rw (index.presents-are, presents-length words),
  )

  presents-le : (t : ℕ) → t < table_count words → get_or presents t 0 ≤ 1024
  presents-le t l = rw (index.presents-are, presents-at words t l) (count-le (λ k. present (get_or words (1024 * t + k) 0)) 1024)

  in_table : (t k : ℕ) → k < 1024 → is_leaf_word words (1024 * t + k) ≡ present (get_or words (1024 * t + k) 0) && table_reached words t
  in_table t k l =
      let e : (1024 * t + k) / 1024 ≡ t = omega arith in
      leaf-words words (1024 * t + k) ∙ ap (λ (d : ℕ). present (get_or words (1024 * t + k) 0) && table_reached words d) e

  more : (t : ℕ) → count (is_leaf_word words) (1024 * (t + 1))
      ≡ count (is_leaf_word words) (1024 * t) + count (λ k. is_leaf_word words (1024 * t + k)) 1024
  more t =
      let e : 1024 * (t + 1) ≡ 1024 * t + 1024 = omega arith in
      ap (count (is_leaf_word words)) e ∙ count_add (is_leaf_word words) (1024 * t) 1024

  link-count : (t : ℕ) → t < table_count words
      → get_or links t 0 ≡ count (λ j. directory_reached words (j / 512) && links_to words j t) (length words)
  unfolding links_of
  link-count t l = rw index.links-are (links-at (λ j. directory_reached words (j / 512)) words t l)

  -- a table with links is reached
  counted-more : (leaves t : ℕ) → Counted words leaves t → t < table_count words → (get_or links t 0 ≡ 0 → ⊥)
      → Counted words (leaves + get_or presents t 0) (t + 1)
  unfolding table_reached
  counted-more leaves t c l linked =
      let n = link-count t l in
      let on : table_reached words t ≡ true =
      count-any (λ j. directory_reached words (j / 512) && links_to words j t) (length words) (pos-count n) in
      let here : get_or presents t 0 ≡ count (λ k. is_leaf_word words (1024 * t + k)) 1024 =
      rw index.presents-are (presents-at words t l)
      ∙ sym (count_same (λ k. is_leaf_word words (1024 * t + k)) (λ k. present (get_or words (1024 * t + k) 0)) 1024
      (λ k kl. in_table t k kl ∙ ap (λ (b : Bool). present (get_or words (1024 * t + k) 0) && b) on ∙ and-true (present (get_or words (1024
      * t + k) 0)))) in
      record { some = omega arith; same = (let m = more t in let s = c.same in omega arith) }
    where
      pos-count : get_or links t 0 ≡ count (λ j. directory_reached words (j / 512) && links_to words j t) (length words)
          → 0 < count (λ j. directory_reached words (j / 512) && links_to words j t) (length words)
      pos-count n = let ne : (get_or links t 0 ≡ 0) → ⊥ = linked in omega arith

  -- and one without is not
  counted_skip : (leaves t : ℕ) → Counted words leaves t → t < table_count words → get_or links t 0 ≡ 0 → Counted words leaves (t + 1)
  unfolding table_reached
  counted_skip leaves t c l none =
      let n = link-count t l in
      let off : table_reached words t ≡ false =
      is_false (table_reached words t)
      (λ h.
      let p = any-count (λ j. directory_reached words (j / 512) && links_to words j t) (length words) h in
      omega arith) in
      let here : count (λ k. is_leaf_word words (1024 * t + k)) 1024 ≡ 0 =
      count_none (λ k. is_leaf_word words (1024 * t + k)) 1024
      (λ k kl. in_table t k kl ∙ ap (λ (b : Bool). present (get_or words (1024 * t + k) 0) && b) off ∙ and-false (present (get_or words
      (1024 * t + k) 0))) in
      record { some = omega arith; same = (let m = more t in let s = c.same in omega arith) }

  counted-le : (leaves t : ℕ) → Counted words leaves t → leaves ≤ 67108864
  counted-le leaves t c =
      let s = c.same in
      let k = count-le (is_leaf_word words) (1024 * t) in
      let w = fit-whole words fits in
      let b = (fit-bounds words fits).1 in
      omega (arith, c.some)

  counted-all : (leaves t : ℕ) → Counted words leaves t → table_count words ≤ t → leaves ≡ leaf_count words
  unfolding leaf_count
  counted-all leaves t c l =
      let e : 1024 * t ≡ length words = (let w = fit-whole words fits in omega (arith, c.some)) in
      c.same ∙ ap (count (is_leaf_word words)) e

  -- a turn of the code's loop, which takes the links and the count of one table
  pub turn_fits : (leaves t present : ℕ) → Counted words leaves t → t < length presents → present ≡ get_or presents t 0
      → leaves + present < 4294967296
  turn_fits leaves t present c inside here =
      let l : t < table_count words = omega (arith, index-long.1) in
      let small = counted-le leaves t c in
      let few = presents-le t l in
      omega arith

  pub turn_more : (leaves t present : ℕ) → Counted words leaves t → t < length links → present ≡ get_or presents t 0
      → (link : ℕ) → link ≡ get_or links t 0 → (link ≡ 0 → ⊥) → Counted words (leaves + present) (t + 1)
  turn_more leaves t present c inside here link e ne =
      let l : t < table_count words = omega (arith, index-long.0) in
      rw here (counted-more leaves t c l (λ z. ne (e ∙ z)))

  pub turn-skip : (leaves t : ℕ) → Counted words leaves t → t < length links → (link : ℕ) → link ≡ get_or links t 0 → link ≡ 0
      → Counted words leaves (t + 1)
  turn-skip leaves t c inside link e z =
      let l : t < table_count words = omega (arith, index-long.0) in
      counted_skip leaves t c l (sym e ∙ z)

  pub turn-end : (leaves t : ℕ) → Counted words leaves t → t ≡ min (length links) (length presents) → leaves ≡ leaf_count words
  turn-end leaves t c e =
      let l : table_count words ≤ t = omega (arith, index-long.0, index-long.1) in
      counted-all leaves t c l

-- a run with another word at an index, as a store finds it
pub set-others : (words : List ℕ) (i v r : ℕ) → (r ≡ i → ⊥) → get_or (set words i v) r 0 ≡ get_or words r 0
set-others words i v r ne = get_or-set_other words i r v 0 ne

-- a test of a word, as a number of the code
pub byte-present : (b : Bool) (w v : ℕ) → b ≡ present w → w ≡ v → bool_byte b ≡ bit (present v)
byte-present b w v e q = bit_byte b ∙ ap bit (e ∙ ap present q)

module _ (words presents : List ℕ) (i old w : ℕ) (is was : Bool) (fits : tables_fit words ≡ true) (inside : i < length words)
    (e : presents ≡ presents_of (set words i old)) (here : w ≡ get_or words i 0) (new : is ≡ present w) (before : was ≡ present old) where
  pub store-inside : i / 1024 < length presents
  store-inside =
      recount-inside (set words i old) words i (length-set words i old) (set-others words i old) fits inside presents e (i / 1024)
      (bool_byte is) (bool_byte was) refl (byte-present is w (get_or words i 0) new here)
      (byte-present was old (get_or (set words i old) i 0) before (sym (get_or-set_same words i old 0 inside)))

  pub store-fits : (get_or presents (i / 1024) 0 + bool_byte is < 4294967296) × (bool_byte was ≤ get_or presents (i / 1024) 0 + bool_byte is)
  store-fits =
      recount-fits (set words i old) words i (length-set words i old) (set-others words i old) fits inside presents e (i / 1024)
      (bool_byte is) (bool_byte was) refl (byte-present is w (get_or words i 0) new here)
      (byte-present was old (get_or (set words i old) i 0) before (sym (get_or-set_same words i old 0 inside)))

  pub store-recounts : set presents (i / 1024) (get_or presents (i / 1024) 0 + bool_byte is - bool_byte was) ≡ presents_of words
  store-recounts =
      recount-is (set words i old) words i (length-set words i old) (set-others words i old) fits inside presents e (i / 1024)
      (bool_byte is) (bool_byte was) refl (byte-present is w (get_or words i 0) new here)
      (byte-present was old (get_or (set words i old) i 0) before (sym (get_or-set_same words i old 0 inside)))
