-- Laws of refusals, over any test, number and answer. Assumes nothing.
use Prim.Native.Nat.{ℕ}
use mathlib.Core.Path.{◌≡◌, refl, sym, ap, ◌∙◌}
use mathlib.Core.Logic.{◌⊎◌, inl, inr, ⊎_elim}
use mathlib.Core.Bool.{Bool, true, false, cond, not}
use native.Mathlib.Omega.{arith}
use lib.Dec.{eqb}
use borrow.Author.Tests.{not-true, not-false, eq-eqb, ne_eqb, eqb-true}
use Rattle.registers.specs.Refusals.{refuse_unless, machine_refusal, by_refusal}
use Rattle.registers.specs.Numbers.{number_of}
use Rattle.registers.specs.Replies.{refusal_of, refused, done}
use Rattle.registers.specs.declared.refusals.Refusal.{Refusal}
use Rattle.registers.specs.declared.refusals.Refusal.TheVariants as reason
use Rattle.registers.specs.declared.Registers.{Registers}
use Rattle.registers.specs.declared.Outcome.{Outcome}
use Rattle.registers.specs.declared.Reply.{Reply}

-- a check that the code makes by a test t: it fails, or the later checks decide
module _ (test t : Bool) (number later : ℕ) (tq : t ≡ test) where
  pub refuse-here : not t ≡ true → number ≡ refuse_unless test number later
  unfolding refuse_unless
  refuse-here h = sym (rw (sym tq ∙ not-true t h))

  pub refuse-later : (n : ℕ) → not t ≡ false → n ≡ later → n ≡ refuse_unless test number later
  unfolding refuse_unless
  refuse-later n h q = q ∙ sym (rw (sym tq ∙ not-false t h))

-- what an accepted call tells of a check
pub passed : (test : Bool) (number later : ℕ) → (number ≡ 0 → ⊥) → refuse_unless test number later ≡ 0 → (test ≡ true) × (later ≡ 0)
unfolding refuse_unless
passed true number later ne h = (refl, h)
passed false number later ne h = absurd (ne h)

pub machine-passed : (registers buffer tables : Bool) (later : ℕ) → machine_refusal registers buffer tables later ≡ 0
    → (registers ≡ true) × (buffer ≡ true) × (tables ≡ true) × (later ≡ 0)
machine-passed registers buffer tables later h =
    let one = passed registers 1 _ (λ e. omega arith) h in
    let two = passed buffer 2 _ (λ e. omega arith) one.1 in
    let three = passed tables 3 _ (λ e. omega arith) two.1 in
    (one.0, two.0, three.0, three.1)

-- the first three checks, which the code makes by tests t, u and v: one of them fails, or the later checks decide
module _ (registers buffer tables t u v : Bool) (tq : t ≡ registers) (uq : u ≡ buffer) (vq : v ≡ tables)
    (n : ℕ) (nq : n ≡ machine_refusal t u v 0) where
  pub machine-refused : (later : ℕ) → (n ≡ 0 → ⊥) → n ≡ machine_refusal registers buffer tables later
  unfolding refuse_unless
  machine-refused later h = rw (← tq, ← uq, ← vq) (go t u v nq)
    where
      go : (a b c : Bool) → n ≡ machine_refusal a b c 0 → n ≡ machine_refusal a b c later
      go true true true q = absurd (h q)
      go true true false q = q
      go true false c q = q
      go false b c q = q

  pub machine-later : (later m : ℕ) → n ≡ 0 → m ≡ later → m ≡ machine_refusal registers buffer tables later
  unfolding refuse_unless
  machine-later later m z q =
      let told = machine-passed t u v 0 (sym nq ∙ z) in
      q ∙ sym (rw (← tq, ← uq, ← vq, told.0, told.1, told.2))

-- what a call gives where it is accepted, and where it is refused
module _ {A : Type 0} (number n : ℕ) (nq : n ≡ number) (accepted refused x : A) where
  pub when-accepted : n ≡ 0 → x ≡ accepted → x ≡ by_refusal number accepted refused
  unfolding by_refusal
  when-accepted z q = q ∙ sym (rw (eq-eqb number 0 (sym nq ∙ z)))

  pub when-refused : (n ≡ 0 → ⊥) → x ≡ refused → x ≡ by_refusal number accepted refused
  unfolding by_refusal
  when-refused z q = q ∙ sym (rw (ne_eqb number 0 (λ y. z (nq ∙ y))))

-- what is accepted or refused, taken apart
module _ {A : Type 0} (number : ℕ) (accepted refused : A) where
  pub by_number : (x : A) → x ≡ by_refusal number accepted refused → ((number ≡ 0) × (x ≡ accepted)) ⊎ (x ≡ refused)
  unfolding by_refusal
  by_number x q = by-test (eqb number 0) refl
    where
      by-test : (b : Bool) → eqb number 0 ≡ b → ((number ≡ 0) × (x ≡ accepted)) ⊎ (x ≡ refused)
      by-test true e = inl (eqb-true number 0 e, q ∙ ap (λ (b : Bool). cond b accepted refused) e)
      by-test false e = inr (q ∙ ap (λ (b : Bool). cond b accepted refused) e)

  -- a part of it
  pub by_part : {B : Type 0} (f : A → B) → f (by_refusal number accepted refused) ≡ by_refusal number (f accepted) (f refused)
  unfolding by_refusal
  by_part {B} f = by-test (eqb number 0)
    where
      by-test : (b : Bool) → f (cond b accepted refused) ≡ cond b (f accepted) (f refused)
      by-test true = refl
      by-test false = refl

  -- an answer tells the number of its refusal: 0 exactly where it is accepted
  pub told-refusal : (outcome : A → Outcome) → (number ≡ 0 → refusal_of (outcome accepted) ≡ 0) → refusal_of (outcome refused) ≡ number
      → refusal_of (outcome (by_refusal number accepted refused)) ≡ number
  told-refusal outcome a r =
      ⊎_elim (λ done. ap (λ (x : A). refusal_of (outcome x)) done.1 ∙ a done.0 ∙ sym done.0)
      (λ q. ap (λ (x : A). refusal_of (outcome x)) q ∙ r)
      (by_number (by_refusal number accepted refused) refl)

-- a call that answers, or is refused, replies with the number of its refusal
pub answer-refusal : (number : ℕ) (answer : Reply) (r : Registers) → refusal_of answer.outcome ≡ 0
    → refusal_of (by_refusal number answer (refused r number)).outcome ≡ number
unfolding refusal_of
answer-refusal number answer r h = told-refusal number answer (refused r number) (λ (s : Reply). s.outcome) (λ z. h) refl

pub reply-refusal : (number value : ℕ) (after r : Registers)
    → refusal_of (by_refusal number (done after value) (refused r number)).outcome ≡ number
unfolding refusal_of
reply-refusal number value after r = answer-refusal number (done after value) r refl

-- the number of a refusal is never that of a call which is accepted
pub refused-ne0 : (refusal : Refusal) → number_of refusal ≡ 0 → ⊥
refused-ne0 reason.Registers h = omega arith
refused-ne0 reason.Pool h = omega arith
refused-ne0 reason.Buffer h = omega arith
refused-ne0 reason.Tables h = omega arith
refused-ne0 reason.Draw h = omega arith
refused-ne0 reason.Service h = omega arith
refused-ne0 reason.Index h = omega arith
refused-ne0 reason.Setting h = omega arith
refused-ne0 reason.Record h = omega arith
refused-ne0 reason.Full h = omega arith
refused-ne0 reason.NotHeld h = omega arith
refused-ne0 reason.Tree h = omega arith
