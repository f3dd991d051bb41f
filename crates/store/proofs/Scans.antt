-- Words written one after another, and by a scan. Assumes nothing.
use Prim.Native.Nat.{ℕ, zero, suc, ◌+◌, ◌≤◌, ◌<◌}
use mathlib.Core.Path.{◌≡◌, refl, sym, ap, ◌∙◌, subst}
use mathlib.Core.Logic.{◌⊎◌, inr, ⊎_elim}
use mathlib.Core.Bool.{Bool, true, false, cond}
use mathlib.Core.List.{List, [], ◌∷◌, ◌++◌, append_assoc, append-nil}
use native.Mathlib.Nat.{add-suc, add-zero, lt-suc_self, eq-or-lt_of_le, le_of_suc-le-suc, add_assoc}
use native.Mathlib.Omega.{arith}
use lib.ListN.{length, get_or, set, length-set, length-append}
use lib.Seq.{get_or-set_same, get_or-set_other}
use Rattle.runs.specs.Bits.{bit}
use Rattle.runs.specs.Counts.{count}
use Rattle.store.specs.Rewrite.{Put, written}
use Rattle.store.specs.Scan.{put_at, puts_from}

pub written-append : (ps qs : List Put) (words : List ℕ) → written (ps ++ qs) words ≡ written qs (written ps words)
unfolding written
written-append [] qs words = refl
written-append (p ∷ ps) qs words = written-append ps qs (set words p.index p.value)

pub written-length : (ps : List Put) (words : List ℕ) → length (written ps words) ≡ length words
unfolding written
written-length [] words = refl
written-length (p ∷ ps) words = written-length ps (set words p.index p.value) ∙ length-set words p.index p.value

-- what every put of a list has
unfoldable pub Every : (P : Put → Type 0) → List Put → Type 0
Every P [] = Unit {0}
Every P (q ∷ qs) = P q × Every P qs

pub every-both : (P : Put → Type 0) (ps qs : List Put) → Every P ps → Every P qs → Every P (ps ++ qs)
unfolding Every
every-both P [] qs a b = b
every-both P (p ∷ ps) qs a b = (a.0, every-both P ps qs a.1 b)

-- no put is at an index
abbrev pub Elsewhere : (ps : List Put) (i : ℕ) → Type 0
Elsewhere ps i = Every (λ p. p.index ≡ i → ⊥) ps

pub elsewhere-both : (ps qs : List Put) (i : ℕ) → Elsewhere ps i → Elsewhere qs i → Elsewhere (ps ++ qs) i
elsewhere-both ps qs i a b = every-both (λ p. p.index ≡ i → ⊥) ps qs a b

pub written-other : (ps : List Put) (words : List ℕ) (i : ℕ) → Elsewhere ps i → get_or (written ps words) i 0 ≡ get_or words i 0
unfolding written Every
written-other [] words i e = refl
written-other (p ∷ ps) words i e =
    written-other ps (set words p.index p.value) i e.1
    ∙ get_or-set_other words p.index i p.value 0 (λ (q : i ≡ p.index). e.0 (sym q))

module _ (p : ℕ → Bool) (v : ℕ → ℕ) (a : ℕ) where
  abbrev one : (n : ℕ) → List Put
  one n = cond (p (a + n)) (put_at (a + n) (v (a + n)) ∷ []) []

  -- what holds of every word that passes
  one-every : (P : Put → Type 0) (n : ℕ) → (p (a + n) ≡ true → P (put_at (a + n) (v (a + n)))) → Every P (one n)
  unfolding Every
  one-every P n h = go (p (a + n)) h
    where
      go : (b : Bool) → (b ≡ true → P (put_at (a + n) (v (a + n)))) → Every P (cond b (put_at (a + n) (v (a + n)) ∷ []) [])
      go true f = (f refl, tt)
      go false f = tt

  pub scan-every : (P : Put → Type 0) (n : ℕ) → ((k : ℕ) → k < n → p (a + k) ≡ true → P (put_at (a + k) (v (a + k))))
      → Every P (puts_from p v a n)
  unfolding Every puts_from
  scan-every P zero h = tt
  scan-every P (suc n) h =
      every-both P (puts_from p v a n) (one n) (scan-every P n (λ k l. h k (omega arith))) (one-every P n (h n (lt-suc_self n)))

  one-elsewhere : (n i : ℕ) → (i ≡ a + n → ⊥) → Elsewhere (one n) i
  one-elsewhere n i ne = one-every (λ q. q.index ≡ i → ⊥) n (λ t (e : a + n ≡ i). ne (sym e))

  -- an index outside of the scan
  pub scan-elsewhere : (n i : ℕ) → ((i < a) ⊎ (a + n ≤ i)) → Elsewhere (puts_from p v a n) i
  scan-elsewhere n i out =
      scan-every (λ q. q.index ≡ i → ⊥) n (λ k l t (e : a + k ≡ i). ⊎_elim (λ u. omega arith) (λ u. omega arith) out)

  one_at : (words : List ℕ) (n : ℕ) → a + n < length words
      → get_or (written (one n) words) (a + n) 0 ≡ cond (p (a + n)) (v (a + n)) (get_or words (a + n) 0)
  unfolding written
  one_at words n inside = go (p (a + n))
    where
      go : (b : Bool) → get_or (written (cond b (put_at (a + n) (v (a + n)) ∷ []) []) words) (a + n) 0
          ≡ cond b (v (a + n)) (get_or words (a + n) 0)
      go true = get_or-set_same words (a + n) (v (a + n)) 0 inside
      go false = refl

  -- one within it
  pub scan-at : (words : List ℕ) (n k : ℕ) → k < n → a + k < length words
      → get_or (written (puts_from p v a n) words) (a + k) 0 ≡ cond (p (a + k)) (v (a + k)) (get_or words (a + k) 0)
  unfolding puts_from
  scan-at words zero k l inside = absurd (omega arith)
  scan-at words (suc n) k l inside =
      ap (λ (ws : List ℕ). get_or ws (a + k) 0) (written-append (puts_from p v a n) (one n) words)
      ∙ ⊎_elim here (λ (l' : k < n). there l' (scan-at words n k l' inside)) (eq-or-lt_of_le (le_of_suc-le-suc l))
    where
      before : List ℕ
      before = written (puts_from p v a n) words

      Goal : ℕ → Type 0
      Goal j = get_or (written (one n) before) (a + j) 0 ≡ cond (p (a + j)) (v (a + j)) (get_or words (a + j) 0)

      last : a + n < length words → Goal n
      last l' =
          one_at before n (subst (λ (len : ℕ). a + n < len) (sym (written-length (puts_from p v a n) words)) l')
          ∙ ap (cond (p (a + n)) (v (a + n))) (written-other (puts_from p v a n) words (a + n)
          (scan-elsewhere n (a + n) (inr (omega arith))))

      here : k ≡ n → Goal k
      here e = subst Goal (sym e) (last (subst (λ (j : ℕ). a + j < length words) e inside))

      there : k < n → get_or before (a + k) 0 ≡ cond (p (a + k)) (v (a + k)) (get_or words (a + k) 0) → Goal k
      there l' ih = written-other (one n) before (a + k) (one-elsewhere n (a + k) (λ (e : a + k ≡ a + n). omega arith)) ∙ ih

  -- a scan in two parts, and one that finds nothing
  pub scan-add : (n m : ℕ) → puts_from p v a (n + m) ≡ puts_from p v a n ++ puts_from p v (a + n) m
  unfolding puts_from
  scan-add n zero = rw (add-zero n) (sym (append-nil (puts_from p v a n)))
  scan-add n (suc m) =
      rw (add-suc n m)
      (ap (λ (ps : List Put). ps ++ one (n + m)) (scan-add n m)
      ∙ append_assoc (puts_from p v a n) (puts_from p v (a + n) m) (one (n + m))
      ∙ ap (λ (k : ℕ). puts_from p v a n ++ (puts_from p v (a + n) m ++ cond (p k) (put_at k (v k) ∷ []) [])) (sym (add_assoc a n m)))

  pub scan-none : (n : ℕ) → ((k : ℕ) → k < n → p (a + k) ≡ false) → puts_from p v a n ≡ []
  unfolding puts_from
  scan-none zero none = refl
  scan-none (suc n) none = rw (scan-none n (λ k l. none k (omega arith)), none n (lt-suc_self n))

  -- how many puts
  pub scan-length : (n : ℕ) → length (puts_from p v a n) ≡ count (λ k. p (a + k)) n
  unfolding puts_from count
  scan-length zero = refl
  scan-length (suc n) = length-append (puts_from p v a n) (one n) ∙ rw (scan-length n) (go (p (a + n)))
    where
      go : (b : Bool) → count (λ k. p (a + k)) n + length (cond b (put_at (a + n) (v (a + n)) ∷ []) []) ≡ count (λ k. p (a + k)) n + bit b
      go true = refl
      go false = refl

-- two scans that agree within
pub scan-same : (p q : ℕ → Bool) (v w : ℕ → ℕ) (a n : ℕ) → ((k : ℕ) → k < n → p (a + k) ≡ q (a + k))
    → ((k : ℕ) → k < n → v (a + k) ≡ w (a + k)) → puts_from p v a n ≡ puts_from q w a n
unfolding puts_from
scan-same p q v w a zero h g = refl
scan-same p q v w a (suc n) h g =
    rw (scan-same p q v w a n (λ k l. h k (omega arith)) (λ k l. g k (omega arith)), h n (lt-suc_self n), g n (lt-suc_self n))
