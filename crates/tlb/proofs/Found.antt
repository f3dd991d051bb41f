-- The turns of a loop that goes up, counts the numbers that pass a test, and keeps the lowest of them. Assumes nothing.
use Rattle.std.proofs.Common.{◌≡◌, ℕ, ◌+◌, ◌≤◌, ◌↔◌, Bool, true, false, cond, Option, Some, None, unwrap_or, refl, sym, ap, ◌∙◌, arith, add-one}
use Rattle.std.specs.Option.{option_or}
use Rattle.runs.specs.Bits.{bit}
use Rattle.runs.specs.Counts.{count, lowest}

-- of the numbers below n, `tally` passed, and `low` is the lowest of these
pub record Found (p : ℕ → Bool) (n tally : ℕ) (low : Option ℕ) : Type 0 where
  pub at_most : tally ≤ n
  pub counted : tally ≡ count p n
  pub none : low ≡ None ↔ tally ≡ 0
  pub least : (otherwise : ℕ) → unwrap_or low otherwise ≡ lowest p n otherwise

first-of : (low : Option ℕ) (n otherwise : ℕ) → unwrap_or (option_or low (Some n)) otherwise ≡ unwrap_or low n
first-of None n otherwise = refl
first-of (Some x) n otherwise = refl

some-of : (low : Option ℕ) (n : ℕ) → option_or low (Some n) ≡ None → ⊥
some-of None n q = cc
some-of (Some x) n q = cc

module _ (p : ℕ → Bool) where
  pub found_none : Found p 0 0 None
  unfolding count lowest
  found_none = record { at_most = omega arith; counted = refl; none = (λ q. refl, λ q. refl); least = λ otherwise. refl }

  module _ (n tally : ℕ) (low : Option ℕ) (f : Found p n tally low) where
    pub found_hit : p n ≡ true → Found p (n + 1) (tally + 1) (option_or low (Some n))
    unfolding count lowest
    found_hit hits = rw (add-one n) (record {
      at_most = omega (arith, f.at_most);
      counted = let b : bit (p n) ≡ 1 = ap bit hits in omega (arith, f.counted);
      none = (λ q. absurd (some-of low n q), λ q. absurd (omega arith));
      least = λ otherwise. first-of low n otherwise ∙ f.least n ∙ ap (λ (b : Bool). lowest p n (cond b n otherwise)) (sym hits);
    })

    pub found_miss : p n ≡ false → Found p (n + 1) tally low
    unfolding count lowest
    found_miss misses = rw (add-one n) (record {
      at_most = omega (arith, f.at_most);
      counted = let b : bit (p n) ≡ 0 = ap bit misses in omega (arith, f.counted);
      none = f.none;
      least = λ otherwise. f.least otherwise ∙ ap (λ (b : Bool). lowest p n (cond b n otherwise)) (sym misses);
    })
