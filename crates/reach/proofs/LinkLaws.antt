-- The links of the tables, when one word after the other is counted in or out. Assumes nothing.
use Prim.Native.Nat.{ℕ, zero, suc, ◌+◌, ◌-◌, ◌*◌, ◌/◌, ◌%◌, ◌≤◌, ◌<◌}
use mathlib.Core.Path.{◌≡◌, refl, sym, ap, ap₂, subst, ◌∙◌}
use mathlib.Core.Bool.{Bool, true, false, cond, not, ◌&&◌}
use mathlib.Core.List.{List}
use native.Mathlib.Nat.{zero-add}
use native.Mathlib.Numerals.{add-one}
use native.Mathlib.Omega.{arith}
use lib.ListN.{length, get_or, set, length-set}
use lib.Seq.{get_or-set_same, get_or-set_other}
use lib.Dec.{eqb, ltb}
use borrow.Author.Tests.{eqb-true, eqb-false, eq-eqb, ltb-true, ltb-false, lt-ltb, le-ltb, not-true, not-false}
use Rattle.runs.specs.Bits.{bit}
use Rattle.runs.specs.Counts.{count}
use Rattle.runs.proofs.Bools.{clash, and_both}
use Rattle.runs.proofs.Counts.{count_same, count-change, count-some, count-le}
use Rattle.runs.specs.Pieces.{tabulate}
use Rattle.runs.proofs.Pieces.{tab-length, tab-at, tab-same, tab-is}
use Rattle.page_table.specs.Words.{number}
use Rattle.page_table.specs.Stretches.{stretch_size}
use Rattle.page_table.specs.Reads.{leads_on}
use Rattle.page_table.proofs.Stretches.{sound-inside}
use Rattle.reach.specs.Reach.{leads_to, links_to}
use Rattle.reach.specs.Index.{table_count, links_from}
use Rattle.reach.specs.Relinking.{stepped, Steps, relinked, relinked_first, Relinks, RelinksAll}
use Rattle.reach.proofs.LeafLaws.{leads-to, leads-sound}

-- the links by their entries
pub links-length : (p : ℕ → Bool) (words : List ℕ) → length (links_from p words) ≡ table_count words
unfolding links_from
links-length p words = tab-length (λ t. count (λ j. p j && links_to words j t) (length words)) 0 (table_count words)

pub links-at : (p : ℕ → Bool) (words : List ℕ) (t : ℕ) → t < table_count words
    → get_or (links_from p words) t 0 ≡ count (λ j. p j && links_to words j t) (length words)
unfolding links_from
links-at p words t h =
    tab-at (λ i. count (λ j. p j && links_to words j i) (length words)) 0 (table_count words) t h
    ∙ ap (λ (i : ℕ). count (λ j. p j && links_to words j i) (length words)) (zero-add t)

-- two runs and two tests that count the same words
pub links-same : (p q : ℕ → Bool) (a b : List ℕ) → length a ≡ length b
    → ((j t : ℕ) → j < length a → p j && links_to a j t ≡ q j && links_to b j t) → links_from p a ≡ links_from q b
unfolding links_from table_count
links-same p q a b e h =
    tab-same (λ t. count (λ j. p j && links_to a j t) (length a)) (λ t. count (λ j. q j && links_to b j t) (length b)) 0 (length a / 1024)
    (λ i l. count_same (λ j. p j && links_to a j (0 + i)) (λ j. q j && links_to b j (0 + i)) (length a) (λ j k. h j (0 + i) k)
    ∙ ap (count (λ j. q j && links_to b j (0 + i))) e)
    ∙ ap (λ (n : ℕ). tabulate (λ t. count (λ j. q j && links_to b j t) (length b)) 0 (n / 1024)) e

-- the stretch of a word that leads on stands in the run
pub leads-fits : (len levels w : ℕ) → leads_on len levels w ≡ true → stretch_size levels * number w + stretch_size levels ≤ len
leads-fits len levels w h = sound-inside len (stretch_size levels) w (leads-sound len levels w h)

leads-table : (words : List ℕ) (w : ℕ) → leads_on (length words) 0 w ≡ true → number w < table_count words
unfolding table_count stretch_size
leads-table words w h = let l = leads-fits (length words) 0 w h in omega arith

-- an entry after a word is counted in or out
relinked-at : (up : Bool) (len w : ℕ) (links : List ℕ) (t : ℕ) → (leads_on len 0 w ≡ true → number w < length links)
    → get_or (relinked up len w links) t 0 ≡ cond (leads_to len 0 w t) (stepped up (get_or links t 0)) (get_or links t 0)
unfolding relinked leads_to
relinked-at up len w links t fits = go (leads_on len 0 w) fits
  where
    new : ℕ
    new = stepped up (get_or links (number w) 0)

    other : (b : Bool) → eqb (number w) t ≡ b → number w < length links
        → get_or (set links (number w) new) t 0 ≡ cond b (stepped up (get_or links t 0)) (get_or links t 0)
    other true e l =
        let q : number w ≡ t = eqb-true (number w) t e in
        subst (λ (k : ℕ). get_or (set links (number w) new) k 0 ≡ stepped up (get_or links k 0)) q (get_or-set_same links (number w) new 0 l)
    other false e l = get_or-set_other links (number w) t new 0 (λ (q : t ≡ number w). eqb-false (number w) t e (sym q))

    go : (b : Bool) → (b ≡ true → number w < length links)
        → get_or (cond b (set links (number w) new) links) t 0 ≡ cond (b && eqb (number w) t) (stepped up (get_or links t 0)) (get_or links t 0)
    go true f = other (eqb (number w) t) refl (f refl)
    go false f = refl

relinked-length : (up : Bool) (len w : ℕ) (links : List ℕ) → length (relinked up len w links) ≡ length links
unfolding relinked
relinked-length up len w links = go (leads_on len 0 w)
  where
    go : (b : Bool) → length (cond b (set links (number w) (stepped up (get_or links (number w) 0))) links) ≡ length links
    go true = length-set links (number w) (stepped up (get_or links (number w) 0))
    go false = refl

toggled : (up link : Bool) (a b : ℕ) → a + bit (up && link) ≡ b + bit (not up && link) → cond link (stepped up a) a ≡ b
unfolding stepped
toggled true true a b e = omega arith
toggled true false a b e = omega arith
toggled false true a b e = omega arith
toggled false false a b e = omega arith

-- one word is counted that was not, or the other way round
module _ (words : List ℕ) (up : Bool) (p q : ℕ → Bool) (j : ℕ) (inside : j < length words) (before : p j ≡ not up) (after : q j ≡ up)
    (same : (k : ℕ) → k < length words → (k ≡ j → ⊥) → p k ≡ q k) where
  pub links-toggle : relinked up (length words) (get_or words j 0) (links_from p words) ≡ links_from q words
  unfolding links_to links_from
  links-toggle =
      tab-is (λ t. count (λ k. q k && links_to words k t) (length words)) (table_count words)
      (relinked up (length words) (get_or words j 0) (links_from p words))
      (relinked-length up (length words) (get_or words j 0) (links_from p words) ∙ links-length p words)
      (λ t l.
      relinked-at up (length words) (get_or words j 0) (links_from p words) t
      (λ h. rw (links-length p words) (leads-table words (get_or words j 0) h))
      ∙ ap (λ (n : ℕ). cond (leads_to (length words) 0 (get_or words j 0) t) (stepped up n) n) (links-at p words t l)
      ∙ toggled up (links_to words j t) (count (λ k. p k && links_to words k t) (length words))
      (count (λ k. q k && links_to words k t) (length words))
      (subst (λ (b : Bool). count (λ k. p k && links_to words k t) (length words) + bit (b && links_to words j t)
      ≡ count (λ k. q k && links_to words k t) (length words) + bit (not up && links_to words j t)) after
      (subst (λ (b : Bool). count (λ k. p k && links_to words k t) (length words) + bit (q j && links_to words j t)
      ≡ count (λ k. q k && links_to words k t) (length words) + bit (b && links_to words j t)) before
      (count-change (λ k. p k && links_to words k t) (λ k. q k && links_to words k t) (length words) j inside
      (λ k kl ne. ap (λ (b : Bool). b && links_to words k t) (same k kl ne))))))

  -- and there is room for it
  pub toggle-fits : length words ≤ 67108864 → Relinks up (length words) (get_or words j 0) (links_from p words)
  unfolding links_to Steps
  toggle-fits short = record {
    inside = λ h. rw (links-length p words) (leads-table words (get_or words j 0) h);
    room = λ h. rw (links-at p words (number (get_or words j 0)) (leads-table words (get_or words j 0) h)) (go up before h);
  }
    where
      go : (b : Bool) → p j ≡ not b → leads_on (length words) 0 (get_or words j 0) ≡ true
          → Steps b (count (λ k. p k && links_to words k (number (get_or words j 0))) (length words))
      go true e h = omega (arith, count-le (λ k. p k && links_to words k (number (get_or words j 0))) (length words))
      go false e h =
          count-some (λ k. p k && links_to words k (number (get_or words j 0))) (length words) j inside
          (and_both e (leads-to (length words) 0 (get_or words j 0) h))

-- The words of a directory are counted one after the other: of its first k the test says `up`, of the others not, and elsewhere it goes by
-- directories.
module _ (words : List ℕ) (up : Bool) (p : ℕ → Bool) (d : ℕ) where
  pub passing : (k j : ℕ) → Bool
  passing k j = cond (eqb (j / 512) d) (cond (ltb (j % 512) k) up (not up)) (p (j / 512))

  module _ (k : ℕ) (l : k < 512) where
    in-directory : eqb ((512 * d + k) / 512) d ≡ true
    in-directory = eq-eqb ((512 * d + k) / 512) d (omega arith)

    before : passing k (512 * d + k) ≡ not up
    unfolding passing
    before = let m : ltb ((512 * d + k) % 512) k ≡ false = le-ltb ((512 * d + k) % 512) k (omega arith) in rw (in-directory, m)

    after : passing (suc k) (512 * d + k) ≡ up
    unfolding passing
    after = let m : ltb ((512 * d + k) % 512) (suc k) ≡ true = lt-ltb ((512 * d + k) % 512) (suc k) (omega arith) in rw (in-directory, m)

    elsewhere : (j : ℕ) → (j ≡ 512 * d + k → ⊥) → passing k j ≡ passing (suc k) j
    unfolding passing
    elsewhere j ne = go (eqb (j / 512) d) refl
      where
        test : (b : Bool) → ltb (j % 512) k ≡ b → j / 512 ≡ d → b ≡ ltb (j % 512) (suc k)
        test true t e = let s = ltb-true (j % 512) k t in sym (lt-ltb (j % 512) (suc k) (omega arith))
        test false t e = let s = ltb-false (j % 512) k t in sym (le-ltb (j % 512) (suc k) (omega arith))

        go : (b : Bool) → eqb (j / 512) d ≡ b
            → cond b (cond (ltb (j % 512) k) up (not up)) (p (j / 512)) ≡ cond b (cond (ltb (j % 512) (suc k)) up (not up)) (p (j / 512))
        go true e = ap (λ (b : Bool). cond b up (not up)) (test (ltb (j % 512) k) refl (eqb-true (j / 512) d e))
        go false e = refl

  module _ (fits : 512 * d + 512 ≤ length words) where
    pub first-links : (k : ℕ) → k ≤ 512 → relinked_first up words d k (links_from (passing 0) words) ≡ links_from (passing k) words
    unfolding relinked_first
    first-links zero l = refl
    first-links (suc k) l =
        ap (relinked up (length words) (get_or words (512 * d + k) 0)) (first-links k (omega arith))
        ∙ links-toggle words up (passing k) (passing (suc k)) (512 * d + k) (omega arith) (before k l) (after k l)
        (λ j h ne. elsewhere k l j ne)

    pub first_fits : length words ≤ 67108864 → RelinksAll up words d (links_from (passing 0) words)
    first_fits short k l =
        subst (λ (links : List ℕ). Relinks up (length words) (get_or words (512 * d + k) 0) links) (sym (first-links k (omega arith)))
        (toggle-fits words up (passing k) (passing (suc k)) (512 * d + k) (omega arith) (before k l) (after k l)
        (λ j h ne. elsewhere k l j ne) short)

  -- the test where none of the directory's words is counted yet, and where all are
  pub passing-none : (j : ℕ) → passing 0 j ≡ cond (eqb (j / 512) d) (not up) (p (j / 512))
  unfolding passing
  passing-none j = rw (le-ltb (j % 512) 0 (omega arith))

  pub passing-all : (j : ℕ) → passing 512 j ≡ cond (eqb (j / 512) d) up (p (j / 512))
  unfolding passing
  passing-all j = rw (lt-ltb (j % 512) 512 (omega arith))

-- one step, and the step of one word's link, in the code's words
pub up_fits : (up : Bool) (n : ℕ) → up ≡ true → Steps up n → n < 4294967295
unfolding Steps
up_fits true n e s = s
up_fits false n e s = absurd (clash refl (sym e))

pub down_fits : (up : Bool) (n : ℕ) → up ≡ false → Steps up n → 1 ≤ n
unfolding Steps
down_fits true n e s = absurd (clash refl e)
down_fits false n e s = s

pub step-up : (up : Bool) (n : ℕ) → up ≡ true → n + 1 ≡ stepped up n
unfolding stepped
step-up up n e = rw e

pub step_down : (up : Bool) (n : ℕ) → up ≡ false → n - 1 ≡ stepped up n
unfolding stepped
step_down up n e = rw e

module _ (up : Bool) (len w : ℕ) (links : List ℕ) (on : Bool) (leads : on ≡ leads_on len 0 w) where
  pub shift_none : not on ≡ true → links ≡ relinked up len w links
  unfolding relinked
  shift_none h = rw (sym leads ∙ not-true on h)

  module _ (h : not on ≡ false) (table : ℕ) (numbered : table ≡ number w) where
    is-on : leads_on len 0 w ≡ true
    is-on = sym leads ∙ not-false on h

    pub shift-inside : Relinks up len w links → table < length links
    shift-inside r = rw numbered (r.inside is-on)

    pub shift-steps : Relinks up len w links → Steps up (get_or links table 0)
    shift-steps r = rw numbered (r.room is-on)

    pub shift_one : (n : ℕ) → n ≡ stepped up (get_or links table 0) → set links table n ≡ relinked up len w links
    unfolding relinked
    shift_one n e = rw (is-on, e, numbered)

pub number_small : (w n : ℕ) → n ≡ number w → n < 65536
unfolding number
number_small w n e = omega arith

-- a loop over the words of a directory: the first k are counted
pub record Shifted (up : Bool) (words : List ℕ) (d : ℕ) (links now : List ℕ) (k : ℕ) : Type 0 where
  pub some : k ≤ 512
  pub same : now ≡ relinked_first up words d k links
  pub long : length now ≡ length links

module _ (up : Bool) (words : List ℕ) (d : ℕ) (links : List ℕ) where
  pub shifted_none : Shifted up words d links links 0
  unfolding relinked_first
  shifted_none = record { some = omega arith; same = refl; long = refl }

  pub shifted_fits : (now : List ℕ) (k w : ℕ) → Shifted up words d links now k → RelinksAll up words d links → k < 512
      → w ≡ get_or words (512 * d + k) 0 → Relinks up (length words) w now
  shifted_fits now k w s all l e =
      subst (λ (v : ℕ). Relinks up (length words) v now) (sym e)
      (subst (Relinks up (length words) (get_or words (512 * d + k) 0)) (sym s.same) (all k l))

  pub shifted-more : (now next : List ℕ) (k w : ℕ) → Shifted up words d links now k → k < 512 → w ≡ get_or words (512 * d + k) 0
      → next ≡ relinked up (length words) w now → Shifted up words d links next (k + 1)
  unfolding relinked_first
  shifted-more now next k w s l e n = record {
    some = omega arith;
    same =
        n ∙ ap₂ (relinked up (length words)) e s.same
        ∙ ap (λ (i : ℕ). relinked_first up words d i links) (sym (add-one k));
    long = ap length n ∙ relinked-length up (length words) w now ∙ s.long;
  }

  pub shifted-all : (now : List ℕ) (k : ℕ) → Shifted up words d links now k → 512 ≤ k → now ≡ relinked_first up words d 512 links
  shifted-all now k s l =
      let e : k ≡ 512 = omega (arith, s.some) in
      s.same ∙ ap (λ (i : ℕ). relinked_first up words d i links) e
