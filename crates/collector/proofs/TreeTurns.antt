-- The tables of a directory one after another, in the code's words. Assumes nothing.
use Prim.Native.Nat.{ℕ, zero, suc, ◌+◌, ◌*◌, ◌≤◌, ◌<◌}
use mathlib.Core.Path.{◌≡◌, refl, sym, ap, ap₂, ◌∙◌, subst}
use mathlib.Core.Bool.{Bool, true, false, cond}
use mathlib.Core.List.{List, [], ◌++◌, append-nil}
use native.Mathlib.Numerals.{add-one}
use native.Mathlib.Omega.{arith}
use lib.ListN.{length, get_or, length-append}
use Rattle.runs.proofs.Counts.{count-le}
use Rattle.page_table.specs.Words.{number}
use Rattle.page_table.specs.Stretches.{stretch_size, directory_word}
use Rattle.page_table.specs.Reads.{leads_on}
use Rattle.reach.proofs.LinkLaws.{leads-fits}
use Rattle.slots.specs.Buffer.{buffer_fits}
use Rattle.store.specs.Rewrite.{Put, written}
use Rattle.store.proofs.Scans.{written-length, scan-length}
use Rattle.trees.specs.Trees.{apart}
use Rattle.collector.specs.Visits.{is_visited, table_leaves, tree_leaves}
use Rattle.collector.specs.Turns.{State, turns}
use Rattle.trees.proofs.Apart.{apart-told}
use Rattle.collector.proofs.Puts.{tree_puts, aged-tree}
use Rattle.collector.proofs.Passes.{word-untouched, leaves-as-came}
use Rattle.collector.proofs.TurnLaws.{turns-append, turns-words, turns_fit, turns-given, turns-emptied}

table-length : (words : List ℕ) (first size t : ℕ) → length (table_leaves words first size t) ≤ 1024
unfolding table_leaves
table-length words first size t =
    omega (
      arith,
      scan-length (λ i. is_visited first size (get_or words i 0)) (λ i. get_or words i 0) (1024 * t) 1024,
      count-le (λ i. is_visited first size (get_or words (1024 * t + i) 0)) 1024,
    )

tree-length : (words : List ℕ) (first size d n : ℕ) → length (tree_leaves words first size d n) ≤ 1024 * n
unfolding tree_leaves
tree-length words first size d zero = omega arith
tree-length words first size d (suc n) = go (leads_on (length words) 0 (directory_word words d n)) (tree-length words first size d n)
  where
    go : (b : Bool) → length (tree_leaves words first size d n) ≤ 1024 * n
        → length (tree_leaves words first size d n ++ cond b (table_leaves words first size
        (number (directory_word words d n))) []) ≤ 1024 * suc n
    go true ih =
        omega (
          arith,
          length-append (tree_leaves words first size d n) (table_leaves words first size (number (directory_word words d n))),
          table-length words first size (number (directory_word words d n)),
        )
    go false ih = omega (arith, ap length (append-nil (tree_leaves words first size d n)))

module _ (first size d : ℕ) (s : State) where
  abbrev seen : ℕ → List Put
  seen j = tree_leaves s.words first size d j

  abbrev word : ℕ → ℕ
  word j = directory_word s.words d j

  pub record Climbing (now : State) (j : ℕ) : Type 0 where
    pub some : j ≤ 512
    pub now-is : now ≡ turns s (seen j)

  pub climbing-none : Climbing s 0
  unfolding tree_leaves turns
  climbing-none = record { some = omega arith; now-is = refl }

  module _ (now : State) (j : ℕ) (g : Climbing now j) where
    words-now : now.words ≡ written (tree_puts s.words first size d j) s.words
    words-now =
        ap (λ (x : State). x.words) g.now-is ∙ turns-words s (seen j)
        ∙ ap (λ (ps : List Put). written ps s.words) (aged-tree s.words first size d j)

    pub climbing-length : length now.words ≡ length s.words
    climbing-length = ap length words-now ∙ written-length (tree_puts s.words first size d j) s.words

    pub climbing-fits : buffer_fits now.buffer ≡ buffer_fits s.buffer
    climbing-fits = ap (λ (x : State). buffer_fits x.buffer) g.now-is ∙ turns_fit s (seen j)

    pub climbing-given : now.aged.given ≤ s.aged.given + 524288
    climbing-given = omega (
      arith,
      ap (λ (x : State). x.aged.given) g.now-is,
      turns-given s (seen j),
      tree-length
          s.words first size d j,
      g.some,
    )

    pub climbing-emptied : now.aged.emptied ≤ s.aged.emptied + 33554432
    climbing-emptied =
        omega (
          arith,
          ap (λ (x : State). x.aged.emptied) g.now-is,
          turns-emptied s (seen j),
          tree-length s.words first size d j,
          g.some,
        )

    module _ (id : ℕ) (ok : apart s.words id d ≡ true) (l : j < 512) (w : ℕ) (wq : w ≡ directory_word now.words d j)
        (b : Bool) (bq : b ≡ leads_on (length now.words) 0 w) where
      word-is : w ≡ word j
      word-is =
          wq ∙ ap (λ (ws : List ℕ). directory_word ws d j) words-now
          ∙ word-untouched s.words first size d (apart-told s.words id d ok) j j (omega arith) l

      leads-is : b ≡ leads_on (length s.words) 0 (word j)
      leads-is = bq ∙ ap₂ (λ (n v : ℕ). leads_on n 0 v) climbing-length word-is

      pub climbing-table : b ≡ true → (t : ℕ) → t ≡ number w → 1024 * t + 1024 ≤ length now.words
      unfolding stretch_size
      climbing-table h t e = subst (λ (n : ℕ). 1024 * n + 1024 ≤ length now.words) (sym e)
          (leads-fits (length now.words) 0 w (sym bq ∙ h))

      pub climbing-on : b ≡ true → (t : ℕ) → t ≡ number w → (next : State) → next ≡ turns now (table_leaves now.words first size t)
          → Climbing next (j + 1)
      unfolding tree_leaves
      climbing-on h t e next q = record {
        some = omega arith;
        now-is =
            q
            ∙ ap₂ turns g.now-is puts-same
            ∙ sym (turns-append s (seen j) (table_leaves s.words first size (number (word j))))
            ∙ ap (λ (x : Bool). turns s (seen j ++ cond x (table_leaves s.words first size (number (word j))) []))
            (sym (sym leads-is ∙ h))
            ∙ ap (λ (n : ℕ). turns s (seen n)) (sym (add-one j));
      }
        where
          puts-same : table_leaves now.words first size t ≡ table_leaves s.words first size (number (word j))
          puts-same =
              ap₂ (λ (ws : List ℕ) (n : ℕ). table_leaves ws first size n) words-now (e ∙ ap number word-is)
              ∙ leaves-as-came s.words first size d (apart-told s.words id d ok) j l (sym leads-is ∙ h)

      pub climbing-skip : b ≡ false → Climbing now (j + 1)
      unfolding tree_leaves
      climbing-skip h = record {
        some = omega arith;
        now-is =
            g.now-is
            ∙ ap (turns s) (sym (append-nil (seen j)))
            ∙ ap (λ (x : Bool). turns s (seen j ++ cond x (table_leaves s.words first size (number (word j))) []))
            (sym (sym leads-is ∙ h))
            ∙ ap (λ (n : ℕ). turns s (seen n)) (sym (add-one j));
      }

    pub climbing-all : 512 ≤ j → now ≡ turns s (tree_leaves s.words first size d 512)
    climbing-all l = g.now-is ∙ ap (λ (n : ℕ). turns s (seen n)) (let e : j ≡ 512 = omega (arith, g.some) in e)
