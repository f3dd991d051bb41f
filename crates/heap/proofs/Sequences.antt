-- What calls on a pool owe one after another, if each of them owes its own. Assumes nothing.
use Prim.Native.Nat.{ℕ, ◌+◌}
use mathlib.Core.Path.{◌≡◌, refl, ap, ◌∙◌}
use mathlib.Core.Bool.{Bool}
use mathlib.Core.List.{List, [], ◌∷◌, ◌++◌}
use native.Mathlib.Omega.{arith}
use borrow.Author.Tests.{eq-eqb}
use Rattle.runs.specs.Bits.{bit}
use Rattle.runs.proofs.Bits.{bit_le}
use Rattle.heap.specs.Pools.{holds}
use Rattle.heap.specs.Sequences.{Calls, KeptThroughout, last_pool, taken_in, given_in, times, history_of, EveryHistoryOf}
use Rattle.heap.specs.Balance.{BalanceOf, NeverTwiceLiveOf}
use Rattle.heap.specs.PastTheSize.{PastStaysOf}
use Rattle.heap.specs.declared.Pool.{Pool}
use Rattle.heap.proofs.Marks.{Sound}
use Rattle.heap.proofs.Accounts.{Account, nothing, both-parts}
use Rattle.heap.proofs.Balance.{new-sound, balanced}

once : (pfn : ℕ) → times pfn (pfn ∷ []) ≡ 1
unfolding times
once pfn = ap (λ (t : Bool). bit t + 0) (eq-eqb pfn pfn refl)

never : (pfn : ℕ) → times pfn [] ≡ 0
unfolding times
never pfn = refl

module _ (c : Calls)
    (account-of : (p : Pool) → Sound p → (e : c.Event) → c.Kept p e → Account p (c.pool_left e) (c.taken_by e) (c.given_by e)) where
  pub account : (p : Pool) → Sound p → (es : List c.Event) → KeptThroughout c p es
      → Account p (last_pool c p es) (taken_in c es) (given_in c es)
  unfolding KeptThroughout last_pool taken_in given_in
  account p sound [] kept = nothing p sound
  account p sound (e ∷ es) kept =
      let first = account-of p sound e kept.0 in
      both-parts p (c.pool_left e) (last_pool c (c.pool_left e) es) (c.taken_by e) (c.given_by e) (taken_in c es) (given_in c es) first
      (account (c.pool_left e) first.sound-still es kept.1)

  pub balance-of : BalanceOf c
  unfolding BalanceOf
  balance-of first size reply made z history kept =
      balanced first size reply made z (last_pool c reply.pool history) (taken_in c history) (given_in c history)
      (account reply.pool (new-sound first size reply made z) history kept)

  pub past-stays-of : PastStaysOf c
  unfolding PastStaysOf
  past-stays-of p long fits history kept place l = (account p (record { all_words = long; fits = fits }) history kept).past place l

  -- a sequence in two parts
  kept-parts : (p : Pool) (xs ys : List c.Event) → KeptThroughout c p (xs ++ ys)
      → KeptThroughout c p xs × KeptThroughout c (last_pool c p xs) ys
  unfolding KeptThroughout last_pool
  kept-parts p [] ys kept = (tt, kept)
  kept-parts p (x ∷ xs) ys kept = let rest = kept-parts (c.pool_left x) xs ys kept.1 in ((kept.0, rest.0), rest.1)

  -- a call that takes a frame gives none
  module _ (taker-gives-none : (e : c.Event) (pfn : ℕ) → c.taken_by e ≡ pfn ∷ [] → c.given_by e ≡ []) where
    -- the pool that a taken frame comes from does not hold it, and the pool that is left does
    taken-now : (p : Pool) → Sound p → (e : c.Event) → c.Kept p e → (pfn : ℕ) → c.taken_by e ≡ pfn ∷ []
        → (bit (holds p pfn) ≡ 0) × (bit (holds (c.pool_left e) pfn) ≡ 1)
    taken-now p sound e kept pfn q =
        let frame = (account-of p sound e kept).frame pfn in
        let one : times pfn (c.taken_by e) ≡ 1 = ap (times pfn) q ∙ once pfn in
        let none : times pfn (c.given_by e) ≡ 0 = ap (times pfn) (taker-gives-none e pfn q) ∙ never pfn in
        let most = bit_le (holds (c.pool_left e) pfn) in
        (omega arith, omega arith)

    pub never-twice-live-of : NeverTwiceLiveOf c
    unfolding NeverTwiceLiveOf KeptThroughout
    never-twice-live-of first size reply made z before between one other kept pfn took took-again =
        let early = kept-parts reply.pool before (one ∷ (between ++ (other ∷ []))) kept in
        let start = account reply.pool (new-sound first size reply made z) before early.0 in
        let here = last_pool c reply.pool before in
        let held = (taken-now here start.sound-still one early.1.0 pfn took).1 in
        let late = kept-parts (c.pool_left one) between (other ∷ []) early.1.1 in
        let next = account-of here start.sound-still one early.1.0 in
        let between-told = account (c.pool_left one) next.sound-still between late.0 in
        let free = (taken-now (last_pool c (c.pool_left one) between) between-told.sound-still other late.1.0 pfn took-again).0 in
        let frame = between-told.frame pfn in
        omega arith

-- a history for every list of requests, if each is answered by a call that keeps its promise
pub every-history-of : (c : Calls) (Request : Type 0) (answered : Pool → Request → c.Event)
    → ((p : Pool) (q : Request) → c.Kept p (answered p q)) → EveryHistoryOf c Request answered
unfolding EveryHistoryOf KeptThroughout history_of
every-history-of c Request answered each-kept p [] = tt
every-history-of c Request answered each-kept p (q ∷ qs) =
    (each-kept p q, every-history-of c Request answered each-kept (c.pool_left (answered p q)) qs)
