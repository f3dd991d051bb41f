-- Frames given one after another from a copy of the pool, in the code's words. Assumes nothing.
use Prim.Native.Nat.{ℕ, zero, suc, ◌+◌, ◌-◌, ◌*◌, ◌≤◌, ◌<◌}
use mathlib.Core.Path.{◌≡◌, refl, sym, ap, ap₂, ◌∙◌, subst}
use mathlib.Core.Bool.{Bool, true, false, cond, not, ◌&&◌}
use mathlib.Core.List.{List, [], ◌∷◌, ◌++◌, append-nil}
use native.Mathlib.Nat.{add-sub_of_le, add-suc, add-zero}
use native.Mathlib.Numerals.{add-one}
use native.Mathlib.Omega.{arith}
use lib.ListN.{length, get_or, take, drop}
use Rattle.std.proofs.lemmas.List.{get_or-take, get_or-drop, length-take, length-drop}
use lib.Dec.{eqb}
use Rattle.registers.specs.Replies.{refusal_of}
use Rattle.page_table.specs.Words.{number, leaf_pfn}
use Rattle.page_table.specs.Stretches.{stretch_size, directory_word}
use Rattle.page_table.specs.Reads.{leads_on}
use Rattle.reach.proofs.LinkLaws.{leads-fits}
use Rattle.store.specs.Rewrite.{Put}
use Rattle.heap.specs.Give.{give_refusal, give_reply, GiveGives}
use Rattle.heap.specs.declared.Pool.{Pool}
use Rattle.heap.specs.declared.PoolReply.{PoolReply}
use Rattle.store.specs.Scan.{put_at, puts_from}
use Rattle.store.proofs.Scans.{scan-add}
use Rattle.collector.specs.Visits.{is_visited, table_leaves, tree_leaves}
use Rattle.collector.specs.Frames.{pfns_of, all_given, pool_after_gives}
use Rattle.std.specs.Prelude.{None, Some}
use Rattle.collector.specs.Turns.{ChecksBy}

-- the words of a table, as the code's loop takes them from the run
abbrev table_words : (words : List ℕ) (t : ℕ) → List ℕ
table_words words t = take (1024 * t + 1024 - 1024 * t) (drop (1024 * t) words)

pub table-at : (words : List ℕ) (t k : ℕ) → 1024 * t + 1024 ≤ length words → k < length (table_words words t)
    → (k < 1024) × (get_or (table_words words t) k 0 ≡ get_or words (1024 * t + k) 0)
table-at words t k l h =
    let inside : k < 1024 + 1024 * t - 1024 * t = omega (arith, simp (length-take, length-drop) at h) in
    (omega arith, get_or-take (1024 * t + 1024 - 1024 * t) (drop (1024 * t) words) k 0 (omega arith) ∙ get_or-drop (1024 * t) words k 0)

pub table-end : (words : List ℕ) (t k : ℕ) → 1024 * t + 1024 ≤ length words → length (table_words words t) ≤ k → 1024 ≤ k
table-end words t k l h = omega (arith, simp (length-take, length-drop) at h)

pub pfns-append : (a b : List Put) → pfns_of (a ++ b) ≡ pfns_of a ++ pfns_of b
unfolding pfns_of
pfns-append [] b = refl
pfns-append (q ∷ qs) b = ap (λ (xs : List ℕ). leaf_pfn q.value ∷ xs) (pfns-append qs b)

pub all_append : (p : Pool) (a b : List ℕ) → all_given p (a ++ b) ≡ all_given p a && all_given (pool_after_gives p a) b
unfolding all_given pool_after_gives
all_append p [] b = refl
all_append p (x ∷ xs) b = ap (λ (t : Bool). eqb (give_refusal p x) 0 && t) (all_append (give_reply p x).pool xs b)
    ∙ go (eqb (give_refusal p x) 0) (all_given (give_reply p x).pool xs) (all_given (pool_after_gives (give_reply p x).pool xs) b)
  where
    go : (r s t : Bool) → r && (s && t) ≡ r && s && t
    go true s t = refl
    go false s t = refl

pub gives-append : (p : Pool) (a b : List ℕ) → pool_after_gives p (a ++ b) ≡ pool_after_gives (pool_after_gives p a) b
unfolding pool_after_gives
gives-append p [] b = refl
gives-append p (x ∷ xs) b = gives-append (give_reply p x).pool xs b

module _ (words : List ℕ) (first size t : ℕ) (p : Pool) where
  abbrev visit : ℕ → Bool
  visit i = is_visited first size (get_or words i 0)

  abbrev value : ℕ → ℕ
  value i = get_or words i 0

  abbrev seen : ℕ → List Put
  seen k = puts_from visit value (1024 * t) k

  pub record Giving (left : Pool) (k : ℕ) : Type 0 where
    pub some : k ≤ 1024
    pub all-given : all_given p (pfns_of (seen k)) ≡ true
    pub left_is : left ≡ pool_after_gives p (pfns_of (seen k))

  pub giving-none : Giving p 0
  unfolding puts_from pfns_of all_given pool_after_gives
  giving-none = record { some = omega arith; all-given = refl; left_is = refl }

  module _ (left : Pool) (k : ℕ) (g : Giving left k) (l : k < 1024) (word : ℕ) (wq : word ≡ get_or words (1024 * t + k) 0)
      (b : Bool) (bq : b ≡ is_visited first size word) where
    here : visit (1024 * t + k) ≡ b
    here = ap (is_visited first size) (sym wq) ∙ sym bq

    next : seen (suc k) ≡ seen k ++ cond b (put_at (1024 * t + k) word ∷ []) []
    unfolding puts_from
    next = ap₂ (λ (x : Bool) (v : ℕ). seen k ++ cond x (put_at (1024 * t + k) v ∷ []) []) here (sym wq)

    pub giving-skip : b ≡ false → Giving left (k + 1)
    giving-skip h =
        let same : seen (k + 1) ≡ seen k =
        ap seen (add-one k) ∙ next ∙ ap (λ (x : Bool). seen k ++ cond x (put_at (1024 * t + k) word ∷ []) []) h ∙ append-nil (seen k) in
        record {
          some = omega arith;
          all-given = ap (λ (ps : List Put). all_given p (pfns_of ps)) same ∙ g.all-given;
          left_is = g.left_is ∙ ap (λ (ps : List Put). pool_after_gives p (pfns_of ps)) (sym same);
        }

    module _ (h : b ≡ true) (pfn : ℕ) (pq : pfn ≡ leaf_pfn word) (reply : PoolReply) (made : GiveGives left pfn reply)
        (refused : Bool) (rq : refused ≡ not (eqb (refusal_of reply.outcome) 0)) where
      more : pfns_of (seen (suc k)) ≡ pfns_of (seen k) ++ (pfn ∷ [])
      unfolding pfns_of
      more =
          ap pfns_of (next ∙ ap (λ (x : Bool). seen k ++ cond x (put_at (1024 * t + k) word ∷ []) []) h)
          ∙ pfns-append (seen k) (put_at (1024 * t + k) word ∷ [])
          ∙ ap (λ (n : ℕ). pfns_of (seen k) ++ (n ∷ [])) (sym pq)

      accepted-is : eqb (give_refusal (pool_after_gives p (pfns_of (seen k))) pfn) 0 ≡ not refused
      accepted-is =
          ap (λ (q : Pool). eqb (give_refusal q pfn) 0) (sym g.left_is)
          ∙ ap (λ (n : ℕ). eqb n 0) (sym made.refusal_is)
          ∙ sym (ap not rq ∙ twice (eqb (refusal_of reply.outcome) 0))
        where
          twice : (x : Bool) → not (not x) ≡ x
          twice true = refl
          twice false = refl

      one_more : all_given p (pfns_of (seen (suc k))) ≡ not refused
      unfolding all_given
      one_more =
          ap (all_given p) more ∙ all_append p (pfns_of (seen k)) (pfn ∷ [])
          ∙ ap₂ (λ (x y : Bool). x && (y && true)) g.all-given accepted-is
          ∙ go (not refused)
        where
          go : (x : Bool) → true && (x && true) ≡ x
          go true = refl
          go false = refl

      pub giving-on : refused ≡ false → Giving reply.pool (k + 1)
      unfolding pool_after_gives
      giving-on r = record {
        some = omega arith;
        all-given = ap (λ (n : ℕ). all_given p (pfns_of (seen n))) (add-one k) ∙ one_more ∙ ap not r;
        left_is =
            ap (λ (x : PoolReply). x.pool) made.reply-is
            ∙ ap (λ (q : Pool). (give_reply q pfn).pool) g.left_is
            ∙ sym (gives-append p (pfns_of (seen k)) (pfn ∷ []))
            ∙ ap (pool_after_gives p) (sym more)
            ∙ ap (λ (n : ℕ). pool_after_gives p (pfns_of (seen n))) (sym (add-one k));
      }

      pub giving-stops : refused ≡ true → ChecksBy p (pfns_of (table_leaves words first size t)) None
      unfolding table_leaves
      giving-stops r = none
        where
          rest : List Put
          rest = puts_from visit value (1024 * t + suc k) (1024 - suc k)

          none : all_given p (pfns_of (seen 1024)) ≡ false
          none =
              ap (λ (n : ℕ). all_given p (pfns_of (seen n))) (sym (add-sub_of_le l))
              ∙ ap (λ (ps : List Put). all_given p (pfns_of ps)) (scan-add visit value (1024 * t) (suc k) (1024 - suc k))
              ∙ ap (all_given p) (pfns-append (seen (suc k)) rest)
              ∙ all_append p (pfns_of (seen (suc k))) (pfns_of rest)
              ∙ ap (λ (x : Bool). x && all_given (pool_after_gives p (pfns_of (seen (suc k)))) (pfns_of rest)) (one_more ∙ ap not r)

  pub giving-all : (left : Pool) (k : ℕ) → Giving left k → 1024 ≤ k → ChecksBy p (pfns_of (table_leaves words first size t)) (Some left)
  unfolding table_leaves
  giving-all left k g l =
      let e : k ≡ 1024 = omega (arith, g.some) in (
        ap (λ (n : ℕ). all_given p (pfns_of (seen n))) (sym e) ∙ g.all-given,
        g.left_is ∙ ap (λ (n : ℕ). pool_after_gives p (pfns_of (seen n))) e,
      )

-- what can't be given can't be given with more behind it
one_later : (words : List ℕ) (first size d : ℕ) (p : Pool) (n : ℕ) → all_given p (pfns_of (tree_leaves words first size d n)) ≡ false
    → all_given p (pfns_of (tree_leaves words first size d (suc n))) ≡ false
unfolding tree_leaves
one_later words first size d p n h =
    let part = cond (leads_on (length words) 0 (directory_word words d n))
    (table_leaves words first size (number (directory_word words d n))) [] in
    ap (all_given p) (pfns-append (tree_leaves words first size d n) part)
    ∙ all_append p (pfns_of (tree_leaves words first size d n)) (pfns_of part)
    ∙ ap (λ (x : Bool). x && all_given (pool_after_gives p (pfns_of (tree_leaves words first size d n))) (pfns_of part)) h

not-later : (words : List ℕ) (first size d : ℕ) (p : Pool) (j : ℕ) → all_given p (pfns_of (tree_leaves words first size d j)) ≡ false
    → (n : ℕ) → all_given p (pfns_of (tree_leaves words first size d (j + n))) ≡ false
not-later words first size d p j h zero = ap (λ (k : ℕ). all_given p (pfns_of (tree_leaves words first size d k))) (add-zero j) ∙ h
not-later words first size d p j h (suc n) =
    ap (λ (k : ℕ). all_given p (pfns_of (tree_leaves words first size d k))) (add-suc j n)
    ∙ one_later words first size d p (j + n) (not-later words first size d p j h n)

-- the same over the tables of a directory
module _ (words : List ℕ) (first size d : ℕ) (p : Pool) where
  abbrev seen-tree : ℕ → List Put
  seen-tree j = tree_leaves words first size d j

  pub record GivingTree (left : Pool) (j : ℕ) : Type 0 where
    pub some : j ≤ 512
    pub all-given : all_given p (pfns_of (seen-tree j)) ≡ true
    pub left_is : left ≡ pool_after_gives p (pfns_of (seen-tree j))

  pub tree-none : GivingTree p 0
  unfolding tree_leaves pfns_of all_given pool_after_gives
  tree-none = record { some = omega arith; all-given = refl; left_is = refl }

  module _ (left : Pool) (j : ℕ) (g : GivingTree left j) (l : j < 512) (w : ℕ) (wq : w ≡ directory_word words d j) (b : Bool)
      (bq : b ≡ leads_on (length words) 0 w) where
    tree-next : seen-tree (suc j) ≡ seen-tree j ++ cond b (table_leaves words first size (number w)) []
    unfolding tree_leaves
    tree-next =
        ap (λ (v : ℕ). seen-tree j ++ cond (leads_on (length words) 0 v) (table_leaves words first size (number v)) []) (sym wq)
        ∙ ap (λ (x : Bool). seen-tree j ++ cond x (table_leaves words first size (number w)) []) (sym bq)

    pub tree-skip : b ≡ false → GivingTree left (j + 1)
    tree-skip h =
        let same : seen-tree (j + 1) ≡ seen-tree j =
        ap seen-tree (add-one j) ∙ tree-next ∙ ap (λ (x : Bool). seen-tree j ++ cond x (table_leaves words first size (number w)) []) h
        ∙ append-nil (seen-tree j) in
        record {
          some = omega arith;
          all-given = ap (λ (ps : List Put). all_given p (pfns_of ps)) same ∙ g.all-given;
          left_is = g.left_is ∙ ap (λ (ps : List Put). pool_after_gives p (pfns_of ps)) (sym same);
        }

    pub tree-fits : b ≡ true → (t : ℕ) → t ≡ number w → 1024 * t + 1024 ≤ length words
    unfolding stretch_size
    tree-fits h t e = subst (λ (n : ℕ). 1024 * n + 1024 ≤ length words) (sym e) (leads-fits (length words) 0 w (sym bq ∙ h))

    module _ (h : b ≡ true) (t : ℕ) (e : t ≡ number w) where
      tree-more : pfns_of (seen-tree (suc j)) ≡ pfns_of (seen-tree j) ++ pfns_of (table_leaves words first size t)
      tree-more =
          ap pfns_of (tree-next ∙ ap (λ (x : Bool). seen-tree j ++ cond x (table_leaves words first size (number w)) []) h)
          ∙ pfns-append (seen-tree j) (table_leaves words first size (number w))
          ∙ ap (λ (n : ℕ). pfns_of (seen-tree j) ++ pfns_of (table_leaves words first size n)) (sym e)

      tree-clear : all_given p (pfns_of (seen-tree (suc j))) ≡ all_given left (pfns_of (table_leaves words first size t))
      tree-clear =
          ap (all_given p) tree-more
          ∙ all_append p (pfns_of (seen-tree j)) (pfns_of (table_leaves words first size t))
          ∙ ap (λ (x : Bool). x && all_given (pool_after_gives p (pfns_of (seen-tree j))) (pfns_of (table_leaves words first size t)))
          g.all-given
          ∙ ap (λ (q : Pool). all_given q (pfns_of (table_leaves words first size t))) (sym g.left_is)

      pub tree-on : (after : Pool) → ChecksBy left (pfns_of (table_leaves words first size t)) (Some after) → GivingTree after (j + 1)
      tree-on after made = record {
        some = omega arith;
        all-given = ap (λ (n : ℕ). all_given p (pfns_of (seen-tree n))) (add-one j) ∙ tree-clear ∙ made.0;
        left_is =
            made.1
            ∙ ap (λ (q : Pool). pool_after_gives q (pfns_of (table_leaves words first size t))) g.left_is
            ∙ sym (gives-append p (pfns_of (seen-tree j)) (pfns_of (table_leaves words first size t)))
            ∙ ap (pool_after_gives p) (sym tree-more)
            ∙ ap (λ (n : ℕ). pool_after_gives p (pfns_of (seen-tree n))) (sym (add-one j));
      }

      -- where a give is refused, the whole can't be given
      pub tree-stops : ChecksBy left (pfns_of (table_leaves words first size t)) None → false ≡ all_given p (pfns_of (tree_leaves words first size d 512))
      tree-stops c = sym (later 512 (omega arith))
        where
          later : (n : ℕ) → suc j ≤ n → all_given p (pfns_of (seen-tree n)) ≡ false
          later n u = subst (λ (k : ℕ). all_given p (pfns_of (seen-tree k)) ≡ false) (add-sub_of_le u)
              (not-later words first size d p (suc j) (tree-clear ∙ c) (n - suc j))

  pub tree_all : (left : Pool) (j : ℕ) → GivingTree left j → 512 ≤ j → true ≡ all_given p (pfns_of (tree_leaves words first size d 512))
  tree_all left j g l =
      let e : j ≡ 512 = omega (arith, g.some) in
      sym (ap (λ (n : ℕ). all_given p (pfns_of (seen-tree n))) (sym e) ∙ g.all-given)
