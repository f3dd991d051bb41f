-- What a raw access that is not refused was handed, and what every reply promises. Assumes nothing.
use Prim.Native.Nat.{ℕ}
use mathlib.Core.Path.{◌≡◌, refl, sym, ap, ◌∙◌}
use mathlib.Core.Bool.{Bool, true, false, cond}
use lib.Dec.{eqb}
use borrow.Author.Tests.{eqb-true}
use native.Mathlib.Omega.{arith}
use Rattle.registers.specs.Fields.{registers_fit}
use Rattle.registers.specs.Refusals.{by_refusal, draw_fits}
use Rattle.registers.proofs.RefusalLaws.{passed}
use Rattle.registers.specs.declared.Access.{Access}
use Rattle.registers.specs.declared.Registers.{Registers}
use Rattle.slots.specs.Buffer.{Buffer, buffer_fits}
use Rattle.access.specs.Translation.{Accepted, translate}
use Rattle.mmu.specs.RawAccess.{RawReply, raw_refused, raw_refusal, raw_reply, raw_refusal_of, RawAccessGives}
use Rattle.std.specs.Prelude.{Ok}

pub raw-accepted : (r : Registers) (b : Buffer) (a : Access) → raw_refusal r b a ≡ 0 → Accepted r b a
unfolding raw_refusal
raw-accepted r b a h =
    let one = passed (registers_fit r) 1 _ (λ e. omega arith) h in
    let two = passed (buffer_fits b) 2 _ (λ e. omega arith) one.1 in
    let four = passed (draw_fits a.draw) 4 _ (λ e. omega arith) two.1 in
    record { registers-fit = one.0; buffer-fits = two.0; draw-fits = four.0 }

pub raw-gives : (r : Registers) (b : Buffer) (a : Access) (reply : RawReply) → reply ≡ raw_reply r b a → RawAccessGives r b a reply
unfolding raw_reply raw_refusal_of by_refusal
raw-gives r b a reply q = record { refusal_is = ap raw_refusal_of q ∙ number (eqb n 0) refl; reply-is = q }
  where
    n : ℕ
    n = raw_refusal r b a

    number : (t : Bool) → eqb n 0 ≡ t → raw_refusal_of (cond t (Ok (translate r b a)) (raw_refused n r)) ≡ n
    number true e = sym (eqb-true n 0 e)
    number false e = refl
