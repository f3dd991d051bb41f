-- Laws of `all`, `any`, `count` and `lowest`, over any test. Assumes nothing.
use Prim.Native.Nat.{ℕ, zero, suc, ◌+◌, ◌-◌, ◌≤◌, ◌<◌}
use mathlib.Core.Path.{◌≡◌, refl, sym, ap, ◌∙◌, subst}
use mathlib.Core.Logic.{◌⊎◌, inl, inr, ⊎_elim}
use mathlib.Core.Bool.{Bool, true, false, cond, not, ◌&&◌}
use native.Mathlib.Nat.{le_of_suc-le-suc, not-suc-le-zero, eq-or-lt_of_le, lt-suc_self, add-suc, add-zero, add-sub_of_le}
use native.Mathlib.Omega.{arith}
use lib.Dec.{ltb}
use borrow.Author.Tests.{lt-ltb, le-ltb, not-true, not-false}
use Rattle.runs.specs.Bits.{bit}
use Rattle.runs.proofs.Bits.{bit_le}
use Rattle.runs.proofs.Bools.{is_false, clash, both, and_both, or-either, or_left, or_right}
use Rattle.runs.specs.Counts.{all, any, count, lowest}

-- a number below suc n is n or below n
split : {n k : ℕ} → k < suc n → (k ≡ n) ⊎ (k < n)
split l = eq-or-lt_of_le (le_of_suc-le-suc l)

module _ (p : ℕ → Bool) where
  pub all-at : (n k : ℕ) → all p n ≡ true → k < n → p k ≡ true
  unfolding all
  all-at zero k h l = absurd (not-suc-le-zero l)
  all-at (suc n) k h l =
      let t = both (p n) (all p n) h in
      ⊎_elim (λ (e : k ≡ n). subst (λ (j : ℕ). p j ≡ true) (sym e) t.0) (λ (l' : k < n). all-at n k t.1 l') (split l)

  pub all_from : (n : ℕ) → ((k : ℕ) → k < n → p k ≡ true) → all p n ≡ true
  unfolding all
  all_from zero h = refl
  all_from (suc n) h = and_both (h n (lt-suc_self n)) (all_from n (λ k l. h k (omega arith)))

  -- a number that passes, and none that does
  pub any_at : (n : ℕ) → any p n ≡ true → (k : ℕ) × (k < n) × (p k ≡ true)
  unfolding any
  any_at zero h = absurd (clash h refl)
  any_at (suc n) h = ⊎_elim (λ (e : p n ≡ true). (n, lt-suc_self n, e)) (λ e. more (any_at n e)) (or-either (p n) (any p n) h)
    where
      more : (k : ℕ) × (k < n) × (p k ≡ true) → (k : ℕ) × (k < suc n) × (p k ≡ true)
      more s = (s.0, omega (arith, s.1), s.2)

  pub any-from : (n k : ℕ) → k < n → p k ≡ true → any p n ≡ true
  unfolding any
  any-from zero k l h = absurd (not-suc-le-zero l)
  any-from (suc n) k l h =
      ⊎_elim (λ (e : k ≡ n). or_left (any p n) (subst (λ (j : ℕ). p j ≡ true) e h))
      (λ (l' : k < n). or_right (p n) (any-from n k l' h)) (split l)

  -- none of the numbers below n passes
  pub any_none : (n k : ℕ) → any p n ≡ false → k < n → p k ≡ false
  any_none n k h l = is_false (p k) (λ t. clash (any-from n k l t) h)

  pub any-suc : (n : ℕ) → any p n ≡ false → p n ≡ false → any p (suc n) ≡ false
  unfolding any
  any-suc n e h = rw (h, e)

  abbrev None : ℕ → Type 0
  None n = (k : ℕ) → k < n → p k ≡ false

  abbrev Some : ℕ → Type 0
  Some n = (k : ℕ) × (k < n) × (p k ≡ true)

  abbrev Only : ℕ → ℕ → Type 0
  Only n k = (j : ℕ) → j < n → p j ≡ true → j ≡ k

  none-suc : (n : ℕ) → None n → p n ≡ false → None (suc n)
  none-suc n all here k l = ⊎_elim (λ (e : k ≡ n). subst (λ (j : ℕ). p j ≡ false) (sym e) here) (λ (l' : k < n). all k l') (split l)

  pub none_or_some : (n : ℕ) → None n ⊎ Some n
  none_or_some zero = inl (λ k l. absurd (not-suc-le-zero l))
  none_or_some (suc n) = go (p n) refl (none_or_some n)
    where
      go : (b : Bool) → p n ≡ b → None n ⊎ Some n → None (suc n) ⊎ Some (suc n)
      go true e r = inr (n, lt-suc_self n, e)
      go false e (inl all) = inl (none-suc n all e)
      go false e (inr s) = inr (s.0, omega (arith, s.1), s.2)

  pub count_none : (n : ℕ) → None n → count p n ≡ 0
  unfolding count
  count_none zero all = refl
  count_none (suc n) all = rw (count_none n (λ k l. all k (omega arith)), all n (lt-suc_self n))

  pub lowest-none : (n d : ℕ) → None n → lowest p n d ≡ d
  unfolding lowest
  lowest-none zero d all = refl
  lowest-none (suc n) d all = rw (all n (lt-suc_self n)) (lowest-none n d (λ k l. all k (omega arith)))

  only_none : (n k : ℕ) → k ≡ n → Only (suc n) k → None n
  only_none n k e o j l = is_false (p j) (λ t. let q : j ≡ k = o j (omega arith) t in omega arith)

  last-false : (n k : ℕ) → k < n → Only (suc n) k → p n ≡ false
  last-false n k l o = is_false (p n) (λ t. let q : n ≡ k = o n (lt-suc_self n) t in omega arith)

  pub count-one : (n k : ℕ) → k < n → p k ≡ true → Only n k → count p n ≡ 1
  unfolding count
  count-one zero k l t o = absurd (not-suc-le-zero l)
  count-one (suc n) k l t o = ⊎_elim here (λ l'. below l' (count-one n k l' t (λ j jl. o j (omega arith)))) (split l)
    where
      here : k ≡ n → count p n + bit (p n) ≡ 1
      here e = rw (count_none n (only_none n k e o), subst (λ (j : ℕ). p j ≡ true) e t)

      below : k < n → count p n ≡ 1 → count p n + bit (p n) ≡ 1
      below l' ih = rw (ih, last-false n k l' o)

  pub lowest-one : (n d k : ℕ) → k < n → p k ≡ true → Only n k → lowest p n d ≡ k
  unfolding lowest
  lowest-one zero d k l t o = absurd (not-suc-le-zero l)
  lowest-one (suc n) d k l t o =
      ⊎_elim here (λ (l' : k < n). lowest-one n (cond (p n) n d) k l' t (λ j jl. o j (omega arith))) (split l)
    where
      here : k ≡ n → lowest p n (cond (p n) n d) ≡ k
      here e = rw (subst (λ (j : ℕ). p j ≡ true) e t) (lowest-none n n (only_none n k e o) ∙ sym e)

  -- the lowest is a number that passes and below which none does
  pub lowest-is : (n d k : ℕ) → k < n → p k ≡ true → ((j : ℕ) → j < k → p j ≡ false) → lowest p n d ≡ k
  unfolding lowest
  lowest-is zero d k l t none = absurd (not-suc-le-zero l)
  lowest-is (suc n) d k l t none =
      ⊎_elim (λ (e : k ≡ n). here e) (λ (l' : k < n). lowest-is n (cond (p n) n d) k l' t none) (split l)
    where
      here : k ≡ n → lowest p n (cond (p n) n d) ≡ k
      here e =
          lowest-none n (cond (p n) n d) (λ j jl. none j (omega arith))
          ∙ ap (λ (b : Bool). cond b n d) (subst (λ (j : ℕ). p j ≡ true) e t) ∙ sym e

  pub lowest-true : (n d : ℕ) → Some n → (p (lowest p n d) ≡ true) × (lowest p n d < n)
  unfolding lowest
  lowest-true zero d s = absurd (not-suc-le-zero s.1)
  lowest-true (suc n) d s = ⊎_elim none (λ (s' : Some n). some (lowest-true n (cond (p n) n d) s')) (none_or_some n)
    where
      Goal : ℕ → Type 0
      Goal x = (p x ≡ true) × (x < suc n)

      last-true : None n → p n ≡ true
      last-true all = ⊎_elim (λ (e : s.0 ≡ n). subst (λ (j : ℕ). p j ≡ true) e s.2)
          (λ (l : s.0 < n). absurd (clash s.2 (all s.0 l))) (split s.1)

      none : None n → Goal (lowest p n (cond (p n) n d))
      none all =
          subst Goal (sym (lowest-none n (cond (p n) n d) all))
          (subst Goal (sym (ap (λ (b : Bool). cond b n d) (last-true all))) (last-true all, lt-suc_self n))

      some : (p (lowest p n (cond (p n) n d)) ≡ true) × (lowest p n (cond (p n) n d) < n) → Goal (lowest p n (cond (p n) n d))
      some h = (h.0, omega (arith, h.1))

  -- below the lowest none passes
  pub below-lowest : (n d k : ℕ) → k < lowest p n d → k < n → p k ≡ false
  unfolding lowest
  below-lowest zero d k h l = absurd (not-suc-le-zero l)
  below-lowest (suc n) d k h l =
      ⊎_elim (λ (e : k ≡ n). subst (λ (j : ℕ). p j ≡ false) (sym e) (last (subst (λ (j : ℕ). j < lowest p n (cond (p n) n d)) e h)))
      (λ (l' : k < n). below-lowest n (cond (p n) n d) k h l') (split l)
    where
      at_most : lowest p n n ≤ n
      at_most = ⊎_elim (λ (all : None n). omega (arith, lowest-none n n all))
          (λ (s : Some n). omega (arith, (lowest-true n n s).1)) (none_or_some n)

      last : n < lowest p n (cond (p n) n d) → p n ≡ false
      last g = is_false (p n) (λ t. let q : n < lowest p n n =
          subst (λ (b : Bool). n < lowest p n (cond b n d)) t g in omega (arith, at_most))

  pub lowest-lt : (n d : ℕ) → d < n → lowest p n d < n
  lowest-lt n d l = ⊎_elim (λ (all : None n). subst (λ (x : ℕ). x < n) (sym (lowest-none n d all)) l)
      (λ (s : Some n). (lowest-true n d s).1) (none_or_some n)

  pub count-le-one : (n : ℕ) → ((j k : ℕ) → j < n → k < n → p j ≡ true → p k ≡ true → j ≡ k) → count p n ≤ 1
  count-le-one n u =
      ⊎_elim
      (λ (all : None n). omega (arith, count_none n all))
      (λ (s : Some n). omega (arith, count-one n s.0 s.1 s.2 (λ j l t. u j s.0 l s.1 t s.2)))
      (none_or_some n)

  pub count-le : (n : ℕ) → count p n ≤ n
  unfolding count
  count-le zero = omega arith
  count-le (suc n) = omega (arith, count-le n, bit_le (p n))

  -- some number passes exactly when the count is not 0
  pub count-some : (n k : ℕ) → k < n → p k ≡ true → 0 < count p n
  unfolding count
  count-some zero k l h = absurd (not-suc-le-zero l)
  count-some (suc n) k l h =
      ⊎_elim (λ (e : k ≡ n). let b : bit (p n) ≡ 1 = ap bit (subst (λ (j : ℕ). p j ≡ true) e h) in omega arith)
      (λ (l' : k < n). omega (arith, count-some n k l' h)) (split l)

  pub any-count : (n : ℕ) → any p n ≡ true → 0 < count p n
  any-count n h = let s = any_at n h in count-some n s.0 s.1 s.2

  pub count-any : (n : ℕ) → 0 < count p n → any p n ≡ true
  count-any n h =
      ⊎_elim (λ (all : None n). let z = count_none n all in absurd (omega arith))
      (λ (s : Some n). any-from n s.0 s.1 s.2) (none_or_some n)

  -- a count in two parts
  pub count_add : (a b : ℕ) → count p (a + b) ≡ count p a + count (λ k. p (a + k)) b
  unfolding count
  count_add a zero = rw (add-zero a, add-zero (count p a))
  count_add a (suc b) = rw (add-suc a b) (let h = count_add a b in omega arith)

-- tests that agree below the bound
module _ (p q : ℕ → Bool) where
  pub all_same : (n : ℕ) → ((k : ℕ) → k < n → p k ≡ q k) → all p n ≡ all q n
  unfolding all
  all_same zero h = refl
  all_same (suc n) h = rw (all_same n (λ k l. h k (omega arith)), h n (lt-suc_self n))

  pub any_same : (n : ℕ) → ((k : ℕ) → k < n → p k ≡ q k) → any p n ≡ any q n
  unfolding any
  any_same zero h = refl
  any_same (suc n) h = rw (any_same n (λ k l. h k (omega arith)), h n (lt-suc_self n))

  pub count_same : (n : ℕ) → ((k : ℕ) → k < n → p k ≡ q k) → count p n ≡ count q n
  unfolding count
  count_same zero h = refl
  count_same (suc n) h = rw (count_same n (λ k l. h k (omega arith)), h n (lt-suc_self n))

  pub lowest-same : (n d : ℕ) → ((k : ℕ) → k < n → p k ≡ q k) → lowest p n d ≡ lowest q n d
  unfolding lowest
  lowest-same zero d h = refl
  lowest-same (suc n) d h = rw (h n (lt-suc_self n)) (lowest-same n (cond (q n) n d) (λ k l. h k (omega arith)))

  -- tests that agree but for one number
  pub count-change : (n i : ℕ) → i < n → ((k : ℕ) → k < n → (k ≡ i → ⊥) → p k ≡ q k) → count p n + bit (q i) ≡ count q n + bit (p i)
  unfolding count
  count-change zero i l h = absurd (not-suc-le-zero l)
  count-change (suc n) i l h =
      ⊎_elim (λ (e : i ≡ n). here e)
      (λ (l' : i < n). below l' (count-change n i l' (λ k kl ne. h k (omega arith) ne))) (split l)
    where
      here : i ≡ n → count p n + bit (p n) + bit (q i) ≡ count q n + bit (q n) + bit (p i)
      here e =
          let s = count_same n (λ k kl. h k (omega arith) (λ (f : k ≡ i). omega arith)) in
          rw e (omega arith)

      below : i < n → count p n + bit (q i) ≡ count q n + bit (p i) → count p n + bit (p n) + bit (q i) ≡ count q n + bit (q n) + bit (p i)
      below l' ih = let s : bit (p n) ≡ bit (q n) = ap bit (h n (lt-suc_self n) (λ (f : n ≡ i). omega arith)) in omega arith

module _ (p : ℕ → Bool) where
  -- what passes and what does not make all
  pub count-both : (n : ℕ) → count (λ k. not (p k)) n + count p n ≡ n
  unfolding count
  count-both zero = refl
  count-both (suc n) = let h = count-both n in let b = one_of (p n) in omega arith
    where
      one_of : (b : Bool) → bit (not b) + bit b ≡ 1
      one_of true = refl
      one_of false = refl

  -- not all pass exactly where fewer pass than there are
  pub not-all : (n : ℕ) → not (all p n) ≡ ltb (count p n) n
  not-all n =
      ⊎_elim
      (λ none.
      let zero_left = count_none (λ k. not (p k)) n none in
      ap not (all_from p n (λ k l. not-false (p k) (none k l))) ∙ sym (le-ltb (count p n) n (omega (arith, count-both n))))
      (λ some.
      let left = count-some (λ k. not (p k)) n some.0 some.1 some.2 in
      ap not (is_false (all p n) (λ h. clash (all-at p n some.0 h some.1) (not-true (p some.0) some.2)))
      ∙ sym (lt-ltb (count p n) n (omega (arith, count-both n))))
      (none_or_some (λ k. not (p k)) n)

  -- those that pass and are below a bound, counted up to a number past it
  pub count-below : (bound n : ℕ) → bound ≤ n → count (λ k. ltb k bound && p k) n ≡ count p bound
  count-below bound n l =
      ap (count (λ k. ltb k bound && p k)) (sym (add-sub_of_le l))
      ∙ count_add (λ k. ltb k bound && p k) bound (n - bound)
      ∙ rw (
        count_same (λ k. ltb k bound && p k) p bound (λ k kl. ap (λ (b : Bool). b && p k) (lt-ltb k bound kl)),
        count_none (λ k. ltb (bound + k) bound && p (bound + k)) (n - bound)
            (λ k kl. ap (λ (b : Bool). b && p (bound + k)) (le-ltb (bound + k) bound (omega arith))),
        add-zero (count p bound),
      ) refl
