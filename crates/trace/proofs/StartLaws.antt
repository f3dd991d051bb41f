-- What the call start leaves, over zero tables, is the machine with which a trace begins. Assumes nothing.
use Prim.Native.Nat.{ℕ}
use mathlib.Core.Path.{◌≡◌, refl, ap, ◌∙◌}
use mathlib.Core.Bool.{Bool, true, false, cond}
use mathlib.Core.List.{List}
use lib.ListN.{length, replicate}
use lib.Dec.{eqb}
use borrow.Author.Tests.{eq-eqb}
use Rattle.registers.specs.declared.Reply.{Reply}
use Rattle.registers.specs.Fields.{zero_registers}
use Rattle.registers.specs.Refusals.{refuse_unless, by_refusal}
use Rattle.registers.specs.Replies.{refused, done}
use Rattle.slots.specs.Buffer.{Buffer, buffer_fits}
use Rattle.slots.specs.Buffer.Buffer.{Wide}
use Rattle.slots.specs.Start.{start_buffer}
use Rattle.control.specs.Starting.{start_refusal, start_reply, started_buffer, StartGives}
use Rattle.trace.specs.Traces.{start_machine}

started-registers : (b : Buffer) → (start_reply b).registers ≡ zero_registers
unfolding start_reply by_refusal
started-registers b = go (eqb (start_refusal b) 0)
  where
    go : (c : Bool) → (cond {A = Reply} c (done zero_registers 0) (refused zero_registers (start_refusal b))).registers ≡ zero_registers
    go true = refl
    go false = refl

started-buffer : (lent : List ℕ) → length lent ≡ 64 → started_buffer (Wide lent) ≡ start_buffer (Wide lent)
unfolding started_buffer start_refusal refuse_unless by_refusal buffer_fits
started-buffer lent e = rw (eq-eqb (length lent) 64 e)

pub start-machine : (lent : List ℕ) (after : Buffer) (reply : Reply) (words : List ℕ) → length lent ≡ 64
    → StartGives (Wide lent) after reply → words ≡ replicate 16384 0
    → record { registers = reply.registers; buffer = after; words = words } ≡ start_machine (Wide lent)
unfolding start_machine
start-machine lent after reply words e g w =
    λ j. record {
      registers = (ap (λ (r : Reply). r.registers) g.reply-is ∙ started-registers (Wide lent)) j;
      buffer = (g.buffer-is ∙ started-buffer lent e) j;
      words = w j;
    }
