-- What a trace takes and puts: the first block, and one more. Assumes nothing.
use Prim.Native.Nat.{ℕ, ◌+◌, ◌*◌}
use mathlib.Core.Path.{◌≡◌, refl, sym, ap, subst, ◌∙◌}
use mathlib.Core.Bool.{true}
use mathlib.Core.List.{List, [], ◌++◌}
use native.Mathlib.Nat.{zero-add}
use native.Mathlib.Omega.{arith}
use lib.ListN.{length, length-append, take}
use Rattle.std.specs.Io.KnownBytes.{Appends, Consumes}
use Rattle.std.specs.declared.option.Option.{Option}
use Rattle.std.proofs.KnownBytes.{Appends-trans, Consumes-trans}
use Rattle.slots.specs.Buffer.{Buffer}
use Rattle.store.specs.Machine.{Machine}
use Rattle.trace.specs.Commands.{commands_of}
use Rattle.trace.specs.Traces.{lines_of, machine_after}
use Rattle.trace.proofs.Blocks.{in_blocks, joined, first-length}
use Rattle.tracing.specs.Blocks.{RECORDS, BYTES, BlockGives}
use Rattle.tracing.specs.Streams.{TraceMoves}
use Rattle.tracing.specs.declared.Block.{Block}
use Rattle.tracing.proofs.TraceLaws.{full_block}

-- the first block
pub first-moves : (m : Machine) (b : Block) (buffer : Buffer) (words input out : List ℕ) (given left held holds : Option (List ℕ))
    → BlockGives m 0 b buffer words input out → Consumes given left (take b.read input)
    → (b.written ≡ true → Appends held holds (take b.length out)) → TraceMoves m b buffer words input given left held holds
first-moves m b buffer words input out given left held holds g t p = record {
  before = [];
  count = 0;
  full = refl;
  taken = t;
  machine-is = g.machine-is;
  number_is = g.number_is ∙ zero-add (length (commands_of (take b.read input)));
  put = λ w. subst (Appends held holds) g.lines_are.text-is (p w);
}

module _ (m : Machine) (b : Block) (buffer : Buffer) (words input : List ℕ) (given left held holds : Option (List ℕ))
    (h : TraceMoves m b buffer words input given left held holds) where
  -- one block more, behind a full one whose lines were written
  pub next-moves : b.written ≡ true → b.read ≡ BYTES → length input ≡ BYTES
      → (b' : Block) (buffer' : Buffer) (words' input' out' : List ℕ) (left' holds' : Option (List ℕ))
      → BlockGives (record { registers = b.registers; buffer = buffer; words = words }) b.number b' buffer' words' input' out'
      → Consumes left left' (take b'.read input') → (b'.written ≡ true → Appends holds holds' (take b'.length out'))
      → TraceMoves m b' buffer' words' input' given left' held holds'
  next-moves w e l b' buffer' words' input' out' left' holds' g t p =
      let before : List ℕ = h.before ++ take b.read input in
      let here : List ℕ = take b'.read input' in
      let n : ℕ = RECORDS * (h.count + 1) in
      let f = full_block b.read input e l in
      let full : length before ≡ BYTES * (h.count + 1) =
      length-append h.before (take b.read input) ∙ omega (arith, h.full, f.0) in
      let counted : length before ≡ 8 * n = omega (arith, full) in
      let whole = in_blocks m 0 n before here counted in
      let number : b.number ≡ 0 + n = h.number_is ∙ first-length n before here counted ∙ omega arith in
      let text : lines_of m 0 (commands_of before) ++ take b'.length out' ≡ lines_of m 0 (commands_of (before ++ here)) =
      ap (λ (x : List ℕ). lines_of m 0 (commands_of before) ++ x) g.lines_are.text-is
      ∙ ap (λ (k : ℕ). lines_of m 0 (commands_of before)
      ++ lines_of (record { registers = b.registers; buffer = buffer; words = words }) k (commands_of here)) number
      ∙ ap (λ (x : Machine). lines_of m 0 (commands_of before) ++ lines_of x (0 + n) (commands_of here)) h.machine-is
      ∙ sym whole.0 in
      record {
        before = before;
        count = h.count + 1;
        full = full;
        taken = Consumes-trans given left left' before here h.taken t;
        machine-is = g.machine-is ∙ ap (λ (x : Machine). machine_after x (commands_of here)) h.machine-is ∙ sym whole.1;
        number_is =
            g.number_is
            ∙ ap (λ (k : ℕ). k + length (commands_of here)) h.number_is
            ∙ sym (length-append (commands_of before) (commands_of here))
            ∙ ap length (sym (joined n before here counted));
        put =
            λ w'. subst (Appends held holds') text
            (Appends-trans held holds holds' (lines_of m 0 (commands_of before)) (take b'.length out') (h.put w) (p w'));
      }

-- a trace from the start
pub moves-from-start : (m m₀ : Machine) (b : Block) (buffer : Buffer) (words input : List ℕ) (given left held holds : Option (List ℕ))
    → m ≡ m₀ → TraceMoves m b buffer words input given left held holds → TraceMoves m₀ b buffer words input given left held holds
moves-from-start m m₀ b buffer words input given left held holds e h =
    subst (λ (x : Machine). TraceMoves x b buffer words input given left held holds) e h
