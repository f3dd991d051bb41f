-- A block of a trace: its lines have room, and what its run gave is what it promises. Assumes nothing.
use Prim.Native.Nat.{ℕ, ◌+◌, ◌*◌, ◌/◌, ◌≤◌, ◌<◌}
use mathlib.Core.Path.{◌≡◌, sym, ap, ◌∙◌}
use mathlib.Core.Bool.{Bool}
use mathlib.Core.List.{List}
use native.Mathlib.Omega.{arith}
use lib.ListN.{length, take}
use lib.Seq.{length-take-le}
use Rattle.slots.specs.Buffer.{Buffer}
use Rattle.store.specs.Machine.{Machine}
use Rattle.line.proofs.TextLaws.{begins}
use Rattle.trace.specs.Commands.{record_count, commands_of}
use Rattle.trace.specs.Traces.{lines_of, RunGives}
use Rattle.trace.specs.declared.Ran.{Ran}
use Rattle.trace.proofs.TraceLaws.{commands-length}
use Rattle.tracing.specs.Blocks.{BYTES, LAST, LinesFit, BlockGives}

-- how many records some bytes are
pub records-of : (input : List ℕ) → length (commands_of input) ≡ (length input + 7) / 8
unfolding commands_of record_count
records-of input = commands-length input 0 ((length input + 7) / 8)

-- the lines of what was read have room
pub lines_fit : (input before out : List ℕ) (read number : ℕ) → read ≤ length input → length input ≡ length before
    → LinesFit before out × (number ≤ LAST)
    → (49 * record_count (length (take read input)) ≤ length out) × (number + length (take read input) < 18446744073709551616)
unfolding record_count
lines_fit input before out read number l e h =
    let g : length (take read input) ≡ read = length-take-le read input l in
    (omega (arith, l, g, e, h.0.0, h.0.1), omega (arith, l, g, e, h.0.0, h.1))

module _ (m : Machine) (number read count : ℕ) (input before out : List ℕ) (ran : Ran) (buffer : Buffer) (words after : List ℕ)
    (written : Bool) where
  pub block-gives : count ≡ (read + 7) / 8 → read ≤ length input → length input ≡ length before → length before ≡ BYTES
      → RunGives m number (take read input) out ran buffer words after
      → BlockGives m number (record {
        registers = ran.registers;
        number = number + count;
        read = read;
        length = ran.length;
        written = written;
      }) buffer words input after
  block-gives q g e l r = record {
    read_fits = omega (arith, g, e, l);
    machine-is = r.machine-is;
    number_is =
        ap (λ (k : ℕ). number + k) q
        ∙ ap (λ (k : ℕ). number + (k + 7) / 8) (sym (length-take-le read input g))
        ∙ ap (λ (k : ℕ). number + k) (sym (records-of (take read input)));
    lines_are = begins out (lines_of m number (commands_of (take read input))) ran.length after r.length-is r.lines_are;
  }
