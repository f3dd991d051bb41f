-- An accepted take takes the lowest free frame, an accepted give frees its frame, and no other frame changes. Assumes nothing.
use Prim.Native.Nat.{ℕ, ◌+◌, ◌-◌, ◌≤◌, ◌<◌}
use mathlib.Core.Path.{◌≡◌, sym, ap, ◌∙◌, subst}
use mathlib.Core.Logic.{⊎_elim}
use mathlib.Core.Bool.{true, false}
use native.Mathlib.Omega.{arith}
use borrow.Author.Tests.{not-false}
use Rattle.runs.proofs.Counts.{below-lowest}
use Rattle.registers.specs.Refusals.{refuse_unless}
use Rattle.registers.specs.declared.Outcome.{Outcome}
use Rattle.registers.specs.declared.Outcome.TheVariants.{Done, Refused}
use Rattle.registers.proofs.RefusalLaws.{passed, by_number}
use Rattle.heap.specs.Bits.{held_at, free_at}
use Rattle.heap.specs.Pools.{pool_fits, lowest_free, holds}
use Rattle.heap.specs.Take.{full_refusal, take_refusal, taken_pfn, taken_pool, take_reply}
use Rattle.heap.specs.Give.{give_refusal, given_pool, give_reply}
use Rattle.heap.specs.OneFrame.{TakesLowest, GivesBack, TakeTakesLowest, GiveGivesBack}
use Rattle.heap.specs.declared.Pool.{Pool}
use Rattle.heap.specs.declared.PoolReply.{PoolReply}
use Rattle.heap.proofs.PoolLaws.{holds-inside}
use Rattle.heap.proofs.CallLaws.{held-pfn}
use Rattle.heap.proofs.Marks.{Sound, mark-this, mark-rest}
use Rattle.heap.proofs.Accounts.{free-frame}

-- what the search passed over is held
lower : (p : Pool) → lowest_free p < p.size → (pfn : ℕ) → p.first ≤ pfn → pfn < p.first + lowest_free p → holds p pfn ≡ true
unfolding lowest_free free_at
lower p l pfn from h =
    holds-inside p pfn from (omega arith)
    ∙ not-false (held_at p.bits (pfn - p.first))
    (below-lowest (free_at p.bits) p.size p.size (pfn - p.first) (omega arith) (omega arith))

lowest-taken : (p : Pool) → Sound p → full_refusal p ≡ 0 → TakesLowest p (taken_pfn p) (taken_pool p)
unfolding taken_pfn taken_pool
lowest-taken p sound h =
    let found = free-frame p h in
    let this = mark-this p sound true (lowest_free p) found.inside found.was_free in record {
      from_first = omega arith;
      within-size = omega (arith, found.inside);
      was_free = this.0;
      lower-held = lower p found.inside;
      held-now = this.1;
      others-stay = λ other ne. mark-rest p sound true (lowest_free p) found.inside found.was_free other ne;
    }

given_back : (p : Pool) → Sound p → (pfn : ℕ) → holds p pfn ≡ true → GivesBack p pfn (given_pool p pfn)
unfolding given_pool
given_back p sound pfn h =
    let held = held-pfn p pfn h in
    let at : p.first + (pfn - p.first) ≡ pfn = (let l = held.from_first in omega arith) in
    let this = mark-this p sound false (pfn - p.first) held.inside held.is_held in record {
      was-held = h;
      free-now = subst (λ (n : ℕ). holds (given_pool p pfn) n ≡ false) at this.1;
      others-stay = λ other ne.
          mark-rest p sound false (pfn - p.first) held.inside held.is_held other (λ (e : other ≡ p.first + (pfn - p.first)). ne (e ∙ at));
    }

-- an accepted outcome is no refusal
no-refusal : (o : Outcome) (value number : ℕ) → o ≡ Done value → o ≡ Refused number → ⊥
no-refusal o value number p q = let z : ◌≡◌ {A = ℕ} 0 1 = cc in omega arith

same-value : (o : Outcome) (a b : ℕ) → o ≡ Done a → o ≡ Done b → a ≡ b
same-value o a b p q = cc

pub take-takes-lowest : TakeTakesLowest
unfolding TakeTakesLowest take_reply take_refusal
take-takes-lowest p reply pfn long kept q =
    ⊎_elim
    (λ done.
    let checked = passed (pool_fits p) 1 (full_refusal p) (λ e. omega arith) done.0 in
    let answer = ap (λ (s : PoolReply). s.outcome) done.1 in
    subst (λ (s : PoolReply). TakesLowest p pfn s.pool) (sym done.1)
    (subst (λ (n : ℕ). TakesLowest p n (taken_pool p)) (same-value reply.outcome (taken_pfn p) pfn answer q)
    (lowest-taken p (record { all_words = long; fits = checked.0 }) checked.1)))
    (λ refused. absurd (no-refusal reply.outcome pfn _ q (ap (λ (s : PoolReply). s.outcome) refused)))
    (by_number _ _ _ reply kept.reply-is)

pub give-gives-back : GiveGivesBack
unfolding GiveGivesBack give_reply give_refusal
give-gives-back p reply pfn value long kept q =
    ⊎_elim
    (λ done.
    let checked = passed (pool_fits p) 1 (refuse_unless (holds p pfn) 11 0) (λ e. omega arith) done.0 in
    let held = (passed (holds p pfn) 11 0 (λ e. omega arith) checked.1).0 in
    subst (λ (s : PoolReply). GivesBack p pfn s.pool) (sym done.1)
    (given_back p (record { all_words = long; fits = checked.0 }) pfn held))
    (λ refused. absurd (no-refusal reply.outcome value _ q (ap (λ (s : PoolReply). s.outcome) refused)))
    (by_number _ _ _ reply kept.reply-is)
