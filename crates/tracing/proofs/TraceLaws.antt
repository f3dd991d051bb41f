-- A trace that is read block by block: the first block, one more, and the last one. Assumes nothing.
use Prim.Native.Nat.{ℕ, ◌+◌, ◌-◌, ◌*◌, ◌/◌, ◌≤◌, ◌<◌}
use mathlib.Core.Path.{◌≡◌, refl, sym, ap, subst, ◌∙◌}
use mathlib.Core.Bool.{Bool, true, false, ◌&&◌}
use mathlib.Core.List.{List, [], ◌++◌}
use mathlib.Core.Logic.{inl, inr}
use native.Mathlib.Omega.{arith}
use lib.Dec.{eqb, leb}
use lib.ListN.{length, length-append, take}
use lib.Seq.{length-take-le}
use borrow.Author.Tests.{eqb-true, eqb-false, leb-true, leb-false}
use Rattle.runs.proofs.Bools.{both, clash}
use Rattle.slots.specs.Buffer.{Buffer}
use Rattle.store.specs.Machine.{Machine}
use Rattle.trace.specs.Commands.{record_count, commands_of, commands_from}
use Rattle.trace.specs.Traces.{machine_after}
use Rattle.trace.proofs.Blocks.{in_blocks}
use Rattle.tracing.specs.Blocks.{RECORDS, BYTES, LAST, BlockGives}
use Rattle.tracing.specs.Traces.{Reached, goes_on, EndsAt, TraceGives}
use Rattle.tracing.specs.declared.Block.{Block}
use Rattle.tracing.proofs.BlockLaws.{records-of}

-- the first block has none before it
pub first_block : (m : Machine) (b : Block) (buffer : Buffer) (words input out : List ℕ)
    → BlockGives m 0 b buffer words input out → Reached m b buffer words input out
unfolding commands_of commands_from record_count machine_after
first_block m b buffer words input out g = record { before = []; count = 0; full = refl; block = g }

-- where it goes on, the block is full, the number within the limit, and the lines could be written
pub goes-on : (b : Block) → goes_on b ≡ true → (b.read ≡ BYTES) × (b.number ≤ LAST) × (b.written ≡ true)
unfolding goes_on
goes-on b h =
    let t = both (b.written && eqb b.read BYTES) (leb b.number LAST) h in (
      eqb-true b.read BYTES (both b.written (eqb b.read BYTES) t.0).1,
      leb-true b.number LAST t.1,
      (both b.written (eqb b.read BYTES) t.0).0,
    )

-- where it does not, the block is the last one for a reason
pub ends : (b : Block) → b.read ≤ BYTES → goes_on b ≡ false → EndsAt b
unfolding goes_on
ends b l h = go b.written (eqb b.read BYTES) (leb b.number LAST) refl refl refl h
  where
    go : (w f n : Bool) → b.written ≡ w → eqb b.read BYTES ≡ f → leb b.number LAST ≡ n → (w && f) && n ≡ false → EndsAt b
    go false f n p q r e = inr (inl p)
    go true false n p q r e = let ne : (b.read ≡ BYTES → ⊥) = eqb-false b.read BYTES q in inl (omega (arith, ne, l))
    go true true true p q r e = absurd (clash refl e)
    go true true false p q r e = inr (inr (leb-false b.number LAST r))

-- a full block's records
pub full_block : (read : ℕ) (input : List ℕ) → read ≡ BYTES → length input ≡ BYTES
    → (length (take read input) ≡ BYTES) × (length (commands_of (take read input)) ≡ RECORDS)
full_block read input e l =
    let q : length (take read input) ≡ BYTES = length-take-le read input (omega (arith, e, l)) ∙ e in
    (q, records-of (take read input) ∙ ap (λ (k : ℕ). (k + 7) / 8) q)

module _ (m : Machine) (b : Block) (buffer : Buffer) (words input out : List ℕ) (h : Reached m b buffer words input out) where
  -- one block more, behind a full one
  pub next-block : b.read ≡ BYTES → length input ≡ BYTES
      → (b' : Block) (buffer' : Buffer) (words' input' out' : List ℕ)
      → BlockGives (record { registers = b.registers; buffer = buffer; words = words }) b.number b' buffer' words' input' out'
      → Reached m b' buffer' words' input' out'
  next-block e l b' buffer' words' input' out' g =
      let f = full_block b.read input e l in
      let here : List ℕ = take b.read input in
      let counted : length h.before ≡ 8 * (RECORDS * h.count) = omega (arith, h.full) in
      let left : record { registers = b.registers; buffer = buffer; words = words } ≡ machine_after m (commands_of (h.before ++ here)) =
      h.block.machine-is ∙ sym (in_blocks m 0 (RECORDS * h.count) h.before here counted).1 in
      let next : b.number ≡ RECORDS * (h.count + 1) =
      let n = h.block.number_is in omega (arith, n, f.1) in
      record {
        before = h.before ++ here;
        count = h.count + 1;
        full = length-append h.before here ∙ omega (arith, h.full, f.0);
        block =
            subst (λ (k : ℕ). BlockGives (machine_after m (commands_of (h.before ++ here))) k b' buffer' words' input' out') next
            (subst (λ (x : Machine). BlockGives x b.number b' buffer' words' input' out') left g);
      }

  -- the last one
  pub last_block : goes_on b ≡ false → TraceGives m b buffer words input out
  last_block e = record { reached = h; why = ends b h.block.read_fits e }

-- a block takes the loop nearer to its end: the number grows by what was read, and a block of nothing is the last one
pub nearer : (m : Machine) (b : Block) (number read : ℕ) (buffer : Buffer) (words input out : List ℕ) → length input ≡ BYTES
    → BlockGives m number b buffer words input out → read ≡ BYTES → number ≤ LAST
    → 18446744073709551616 - b.number + b.read < 18446744073709551616 - number + read
nearer m b number read buffer words input out l g e n =
    let k : length (commands_of (take b.read input)) ≡ (b.read + 7) / 8 =
    records-of (take b.read input)
    ∙ ap (λ (x : ℕ). (x + 7) / 8) (length-take-le b.read input (omega (arith, l, g.read_fits))) in
    omega (arith, g.number_is, g.read_fits, k, e, n)

-- a trace from the start
pub from_start : (m m₀ : Machine) (b : Block) (buffer : Buffer) (words input out : List ℕ) → m ≡ m₀ → TraceGives m b buffer words input out
    → TraceGives m₀ b buffer words input out
from_start m m₀ b buffer words input out e g = subst (λ (x : Machine). TraceGives x b buffer words input out) e g
