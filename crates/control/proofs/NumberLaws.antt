-- What a call that names a register was handed, and the ways through its first checks. Assumes nothing.
use Prim.Native.Nat.{ℕ, ◌<◌}
use mathlib.Core.Path.{◌≡◌, sym, ◌∙◌}
use mathlib.Core.Bool.{Bool, true, false}
use native.Mathlib.Omega.{arith}
use lib.Dec.{lit<}
use borrow.Author.Tests.{ltb-true, lt-ltb}
use Rattle.registers.specs.Fields.{field, to_words, widths, registers_fit}
use Rattle.registers.specs.Refusals.{refuse_unless}
use Rattle.registers.proofs.Fields.{fits-place}
use Rattle.registers.proofs.RefusalLaws.{passed}
use Rattle.registers.specs.declared.Registers.{Registers}
use Rattle.slots.specs.Buffer.{Buffer, buffer_fits}
use Rattle.control.specs.Numbers.{is_register, number_refusal}

pub record NumberAccepted (r : Registers) (b : Buffer) (number : ℕ) : Type 0 where
  pub registers-fit : registers_fit r ≡ true
  pub buffer-fits : buffer_fits b ≡ true
  pub is-register : is_register number ≡ true

pub number-accepted : (r : Registers) (b : Buffer) (number : ℕ) → registers_fit r ≡ true → buffer_fits b ≡ true → number < 10
    → NumberAccepted r b number
unfolding is_register
number-accepted r b number f g l = record { registers-fit = f; buffer-fits = g; is-register = lt-ltb number 10 l }

pub number_lt : {r : Registers} {b : Buffer} {number : ℕ} → NumberAccepted r b number → number < 10
unfolding is_register
number_lt {number = number} a = ltb-true number 10 a.is-register

pub select-lt : (r : Registers) → registers_fit r ≡ true → r.select < 64
unfolding field to_words widths
select-lt r h = fits-place r 6 h (lit< tt)

-- a refusal by the first three checks stands whatever the later ones say
stays : (one two seven : Bool) (later n : ℕ) → n ≡ refuse_unless one 1 (refuse_unless two 2 (refuse_unless seven 7 0)) → (n ≡ 0 → ⊥)
    → n ≡ refuse_unless one 1 (refuse_unless two 2 (refuse_unless seven 7 later))
unfolding refuse_unless
stays false two seven later n e h = e
stays true false seven later n e h = e
stays true true false later n e h = e
stays true true true later n e h = absurd (h e)

module _ (r : Registers) (b : Buffer) (number later : ℕ) where
  pub number_passed : number_refusal r b number later ≡ 0 → NumberAccepted r b number × (later ≡ 0)
  unfolding number_refusal
  number_passed h =
      let one = passed (registers_fit r) 1 _ (λ e. omega arith) h in
      let two = passed (buffer_fits b) 2 _ (λ e. omega arith) one.1 in
      let seven = passed (is_register number) 7 _ (λ e. omega arith) two.1 in
      (record { registers-fit = one.0; buffer-fits = two.0; is-register = seven.0 }, seven.1)

  pub number-refused : (n : ℕ) → n ≡ number_refusal r b number 0 → (n ≡ 0 → ⊥) → n ≡ number_refusal r b number later
  unfolding number_refusal
  number-refused n e h = stays (registers_fit r) (buffer_fits b) (is_register number) later n e h

-- where they pass, the later ones decide
pub number-goes-on : (r : Registers) (b : Buffer) (number later : ℕ) → NumberAccepted r b number → number_refusal r b number later ≡ later
unfolding number_refusal refuse_unless
number-goes-on r b number later a = rw (a.registers-fit, a.buffer-fits, a.is-register)

pub number-later : (r : Registers) (b : Buffer) (number later n x : ℕ) → n ≡ number_refusal r b number 0 → n ≡ 0 → x ≡ later
    → x ≡ number_refusal r b number later
number-later r b number later n x e z q = q ∙ sym (number-goes-on r b number later (number_passed r b number 0 (sym e ∙ z)).0)
