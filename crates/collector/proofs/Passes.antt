-- What the stores of a pass change: each visited leaf by itself, and no other word. Assumes nothing.
use Prim.Native.Nat.{ℕ, zero, suc, ◌+◌, ◌*◌, ◌/◌, ◌≤◌, ◌<◌}
use mathlib.Core.Path.{◌≡◌, refl, sym, ap, ◌∙◌, subst}
use mathlib.Core.Logic.{◌⊎◌, inl, inr, ⊎_elim}
use mathlib.Core.Bool.{Bool, true, false, cond}
use mathlib.Core.List.{List, []}
use native.Mathlib.Nat.{eq-or-lt_of_le, le_of_suc-le-suc, lt-suc_self}
use native.Mathlib.Omega.{arith}
use lib.ListN.{length, get_or}
use lib.Dec.{ltb}
use borrow.Author.Tests.{ltb-true, ltb-false}
use Rattle.page_table.specs.Words.{number}
use Rattle.page_table.specs.Stretches.{stretch_size, directory_word}
use Rattle.page_table.specs.Reads.{leads_on}
use Rattle.reach.proofs.LeafLaws.{leads-numbered}
use Rattle.reach.proofs.LinkLaws.{leads-fits}
use Rattle.store.specs.Rewrite.{Put, written}
use Rattle.store.proofs.Scans.{Every, Elsewhere, elsewhere-both, written-append, written-length, written-other, scan-elsewhere, scan-at}
use Rattle.store.proofs.Scans.{scan-same}
use Rattle.collector.specs.Visits.{is_visited, aged, table_leaves, tree_leaves, pass_leaves, aged_puts}
use Rattle.collector.proofs.Puts.{table_puts, tree_puts, aged-tree, pass_words}
use Rattle.trees.proofs.Apart.{Apart}

-- an index in no word of a table
outside : (t i : ℕ) → (i / 1024 ≡ t → ⊥) → (i < 1024 * t) ⊎ (1024 * t + 1024 ≤ i)
outside t i ne = go (ltb i (1024 * t)) refl
  where
    go : (b : Bool) → ltb i (1024 * t) ≡ b → (i < 1024 * t) ⊎ (1024 * t + 1024 ≤ i)
    go true e = inl (ltb-true i (1024 * t) e)
    go false e = let l = ltb-false i (1024 * t) e in inr (omega arith)

module _ (words : List ℕ) (first size : ℕ) where
  table-elsewhere : (t i : ℕ) → (i / 1024 ≡ t → ⊥) → Elsewhere (table_puts words first size t) i
  unfolding table_puts
  table-elsewhere t i ne =
      scan-elsewhere (λ k. is_visited first size (get_or words k 0)) (λ k. aged (get_or words k 0)) (1024 * t) 1024 i (outside t i ne)

  module _ (d : ℕ) where
    abbrev word : ℕ → ℕ
    word j = directory_word words d j

    abbrev leads : ℕ → Bool
    leads j = leads_on (length words) 0 (directory_word words d j)

    abbrev part : ℕ → List Put
    part n = cond (leads n) (table_puts words first size (number (word n))) []

    part-elsewhere : (n i : ℕ) → (leads n ≡ true → i / 1024 ≡ number (word n) → ⊥) → Elsewhere (part n) i
    unfolding Every
    part-elsewhere n i ne = go (leads n) ne
      where
        go : (b : Bool) → (b ≡ true → i / 1024 ≡ number (word n) → ⊥)
            → Elsewhere (cond b (table_puts words first size (number (word n))) []) i
        go true h = table-elsewhere (number (word n)) i (h refl)
        go false h = tt

    -- an index in none of the tables
    pub tree-elsewhere : (n i : ℕ) → ((j : ℕ) → j < n → leads j ≡ true → i / 1024 ≡ number (word j) → ⊥)
        → Elsewhere (tree_puts words first size d n) i
    unfolding Every tree_puts
    tree-elsewhere zero i none = tt
    tree-elsewhere (suc n) i none =
        elsewhere-both (tree_puts words first size d n) (part n) i
        (tree-elsewhere n i (λ j l. none j (omega arith))) (part-elsewhere n i (none n (lt-suc_self n)))

    module _ (apart : Apart words d) where
      -- the words of a table that comes later are as they were
      pub table-untouched : (n k : ℕ) → n < 512 → leads n ≡ true → k < 1024
          → get_or (written (tree_puts words first size d n) words) (1024 * number (word n) + k) 0 ≡ get_or words (1024 * number (word n) + k) 0
      table-untouched n k l h kl =
          written-other (tree_puts words first size d n) words (1024 * number (word n) + k)
          (tree-elsewhere n (1024 * number (word n) + k)
          (λ j jl leads-j (e : (1024 * number (word n) + k) / 1024 ≡ number (word j)). apart.distinct n j l jl h leads-j (omega arith)))

      -- and so are the directory's own
      pub word-untouched : (n j : ℕ) → n ≤ 512 → j < 512
          → directory_word (written (tree_puts words first size d n) words) d j ≡ directory_word words d j
      unfolding directory_word
      word-untouched n j l jl =
          written-other (tree_puts words first size d n) words (512 * d + j)
          (tree-elsewhere n (512 * d + j)
          (λ k kl leads-k (e : (512 * d + j) / 1024 ≡ number (word k)). apart.beside k (omega arith) leads-k (omega arith)))

      -- so that the leaves of the next table are the same, judged by the words of that moment or by those that came in
      pub leaves-as-came : (n : ℕ) → n < 512 → leads n ≡ true
          → table_leaves (written (tree_puts words first size d n) words) first size (number (word n))
          ≡ table_leaves words first size (number (word n))
      unfolding table_leaves
      leaves-as-came n l h =
          let now : List ℕ = written (tree_puts words first size d n) words in
          scan-same (λ i. is_visited first size (get_or now i 0)) (λ i. is_visited first size (get_or words i 0))
          (λ i. get_or now i 0) (λ i. get_or words i 0) (1024 * number (word n)) 1024
          (λ k kl. ap (is_visited first size) (table-untouched n k l h kl)) (λ k kl. table-untouched n k l h kl)

      -- a word of a table, after the pass
      pub tree-at : (n j k : ℕ) → n ≤ 512 → j < n → leads j ≡ true → k < 1024
          → get_or (written (tree_puts words first size d n) words) (1024 * number (word j) + k) 0
          ≡ cond (is_visited first size (get_or words (1024 * number (word j) + k) 0)) (aged (get_or words (1024 * number (word j) + k) 0))
          (get_or words (1024 * number (word j) + k) 0)
      unfolding tree_puts table_puts stretch_size
      tree-at zero j k nl l h kl = absurd (omega arith)
      tree-at (suc n) j k nl l h kl =
          ap (λ (ws : List ℕ). get_or ws (1024 * number (word j) + k) 0) (written-append (tree_puts words first size d n) (part n) words)
          ∙ ⊎_elim here (λ (l' : j < n). there l' (tree-at n j k (omega arith) l' h kl)) (eq-or-lt_of_le (le_of_suc-le-suc l))
        where
          before : List ℕ
          before = written (tree_puts words first size d n) words

          Goal : ℕ → Type 0
          Goal x = get_or (written (part n) before) (1024 * number (word x) + k) 0
              ≡ cond (is_visited first size (get_or words (1024 * number (word x) + k) 0)) (aged (get_or words (1024 * number (word x) + k) 0))
              (get_or words (1024 * number (word x) + k) 0)

          table_fits : leads n ≡ true → 1024 * number (word n) + 1024 ≤ length words
          table_fits t = leads-fits (length words) 0 (word n) t

          fits : leads n ≡ true → 1024 * number (word n) + k < length before
          fits t = omega (arith, written-length (tree_puts words first size d n) words, table_fits t)

          last : leads n ≡ true → Goal n
          last t =
              ap (λ (b : Bool). get_or (written (cond b (table_puts words first size (number (word n))) []) before)
              (1024 * number (word n) + k) 0) t
              ∙ scan-at (λ i. is_visited first size (get_or words i 0)) (λ i. aged (get_or words i 0))
              (1024 * number (word n)) before 1024 k kl (fits t)
              ∙ ap (cond (is_visited first size (get_or words (1024 * number (word n) + k) 0))
              (aged (get_or words (1024 * number (word n) + k) 0)))
              (table-untouched n k (omega arith) t kl)

          here : j ≡ n → Goal j
          here e = subst Goal (sym e) (last (subst (λ (x : ℕ). leads x ≡ true) e h))

          there : j < n → get_or before (1024 * number (word j) + k) 0
              ≡ cond (is_visited first size (get_or words (1024 * number (word j) + k) 0)) (aged (get_or words (1024 * number (word j) + k) 0))
              (get_or words (1024 * number (word j) + k) 0)
              → Goal j
          there l' ih =
              written-other (part n) before (1024 * number (word j) + k)
              (part-elsewhere n (1024 * number (word j) + k)
              (λ t (e : (1024 * number (word j) + k) / 1024 ≡ number (word n)). apart.distinct n j (omega arith) l' t h (omega arith)))
              ∙ ih

-- one pass over a tree that stands apart
module _ (words : List ℕ) (first size id : ℕ) (leads-root : leads_on (length words) 1 (get_or words id 0) ≡ true) where
  abbrev own : ℕ
  own = number (get_or words id 0)

  pub pass-length : length (pass_words words first size id) ≡ length words
  unfolding pass_words
  pass-length = written-length (aged_puts (pass_leaves words first size id)) words

  pub pass-is : pass_words words first size id ≡ written (tree_puts words first size (number (get_or words id 0)) 512) words
  unfolding pass_words pass_leaves
  pass-is =
      ap (λ (b : Bool). written (aged_puts (cond b (tree_leaves words first size own 512) [])) words) leads-root
      ∙ ap (λ (ps : List Put). written ps words) (aged-tree words first size own 512)

  -- the roots stay
  pub pass-root : (root : ℕ) → root < 64 → get_or (pass_words words first size id) root 0 ≡ get_or words root 0
  pass-root root r =
      ap (λ (ws : List ℕ). get_or ws root 0) pass-is
      ∙ written-other (tree_puts words first size own 512) words root
      (tree-elsewhere words first size own 512 root
      (λ j l leads-j (e : root / 1024 ≡ number (directory_word words own j)).
      leads-numbered (length words) 0 (directory_word words own j) leads-j (omega arith)))

  module _ (apart : Apart words (number (get_or words id 0))) where
    pub pass-word : (j : ℕ) → j < 512 → directory_word (pass_words words first size id) own j ≡ directory_word words own j
    pass-word j l = ap (λ (ws : List ℕ). directory_word ws own j) pass-is ∙ word-untouched words first size own apart 512 j (omega arith) l

    pub pass-leaf : (j k : ℕ) → j < 512 → leads_on (length words) 0 (directory_word words own j) ≡ true → k < 1024
        → get_or (pass_words words first size id) (1024 * number (directory_word words own j) + k) 0
        ≡ cond (is_visited first size (get_or words (1024 * number (directory_word words own j) + k) 0))
        (aged (get_or words (1024 * number (directory_word words own j) + k) 0))
        (get_or words (1024 * number (directory_word words own j) + k) 0)
    pass-leaf j k l h kl =
        ap (λ (ws : List ℕ). get_or ws (1024 * number (directory_word words own j) + k) 0) pass-is
        ∙ tree-at words first size own apart 512 j k (omega arith) l h kl
