-- A file that is replayed block by block: the first block, one more, and the last one. Assumes nothing.
use Prim.Native.Nat.{ℕ, ◌+◌, ◌*◌, ◌≤◌, ◌<◌}
use mathlib.Core.Path.{◌≡◌, refl, sym, ap, subst, ◌∙◌}
use mathlib.Core.Bool.{Bool, true, false, cond, ◌&&◌}
use mathlib.Core.List.{List, [], ◌++◌}
use mathlib.Core.Logic.{inl, inr}
use native.Mathlib.Omega.{arith}
use lib.Dec.{ltb}
use lib.IntN.{ℤ, pos}
use lib.ListN.{length, length-append, length-replicate, replicate, take}
use lib.Seq.{length-take-le}
use borrow.Author.Tests.{ltb-true, ltb-false}
use Rattle.std.specs.Result.{is_ok}
use Rattle.runs.proofs.Bools.{both, clash}
use Rattle.streams.specs.Filling.{Fills, StopsAt}
use Rattle.streams.specs.declared.Stop.{Stop}
use Rattle.streams.specs.declared.Stop.TheVariants.{Full, Ended, Failed}
use Rattle.registers.specs.declared.Registers.{Registers}
use Rattle.page_table.specs.Stretches.{length_fits, tables_fit}
use Rattle.slots.specs.Buffer.{Buffer}
use Rattle.slots.specs.Buffer.Buffer.{Wide}
use Rattle.store.specs.Machine.{Machine}
use Rattle.trace.specs.Commands.{record_count, commands_of, commands_from}
use Rattle.trace.specs.Traces.{start_machine}
use Rattle.report.specs.Replays.{machine_in, Ready}
use Rattle.report.specs.Tallies.{Tally, continued, tally_of, ReplayStarts}
use Rattle.report.specs.Totals.{TOTALS}
use Rattle.report.specs.declared.Replay.{Replay}
use Rattle.report.proofs.TallyLaws.{in_blocks}
use Rattle.reporting.specs.Blocks.{RECORDS, BYTES, BlockGives}
use Rattle.reporting.specs.Replays.{Reached, MOST, is_full, goes_on, EndsAt, ReplayGives}
use Rattle.reporting.specs.declared.Block.{Block}
use Rattle.reporting.specs.declared.Replayed.{Replayed}

-- where a block is followed by another, every total is within the limit, it is full, and there is a next number
pub goes_on_lem : (b : Block) (blocks : ℕ) → goes_on b blocks ≡ true
    → (is_ok b.counted ≡ true) × (is_full b.filled.stop ≡ true) × (blocks < MOST)
unfolding goes_on
goes_on_lem b blocks h =
    let t = both (is_ok b.counted && is_full b.filled.stop) (ltb blocks MOST) h in
    let s = both (is_ok b.counted) (is_full b.filled.stop) t.0 in
    (s.0, s.1, ltb-true blocks MOST t.1)

-- so many bytes of a block were read
pub block-fills : (m : Machine) (totals : List ℤ) (b : Block) (p : Replay) (input : List ℕ) → BlockGives m totals b p input
    → Fills BYTES b.filled
block-fills m totals b p input g = subst (λ (n : ℕ). Fills n b.filled) g.room g.fills

-- a full block
full-length : (n length : ℕ) (s : Stop) → StopsAt n length s → is_full s ≡ true → length ≡ n
full-length n length Full w f = w
full-length n length Ended w f = absurd (clash f refl)
full-length n length Failed w f = absurd (clash f refl)

-- where it is not, the block is the last one for a reason
ends : (b : Block) (blocks : ℕ) → Fills BYTES b.filled → blocks ≤ MOST → goes_on b blocks ≡ false → EndsAt b blocks
unfolding goes_on
ends b blocks f k h = go (is_ok b.counted) b.filled.stop (ltb blocks MOST) refl refl refl f.why h
  where
    go : (fits : Bool) (s : Stop) (less : Bool) → is_ok b.counted ≡ fits → b.filled.stop ≡ s → ltb blocks MOST ≡ less
        → StopsAt BYTES b.filled.length s → (fits && is_full s) && less ≡ false → EndsAt b blocks
    go false s less p q r w e = inl p
    go true Failed less p q r w e = inr (inl q)
    go true Ended less p q r w e = inr (inr (inl (w, q)))
    go true Full true p q r w e = absurd (clash refl e)
    go true Full false p q r w e = let m : MOST ≤ blocks = ltb-false blocks MOST r in inr (inr (inr (omega (arith, m, k))))

-- what a block is handed behind so many full ones, after which every total is within the limit
pub record Handed (m : Machine) (totals : List ℤ) (p : Replay) (blocks : ℕ) : Type 0 where
  pub before : List ℕ
  pub full : length before ≡ BYTES * blocks
  pub tally-is : tally_of m totals (commands_of before) ≡ record { machine = machine_in p; totals = p.totals.now; fits = true }

pub handed-first : (p : Replay) → Handed (machine_in p) p.totals.now p 0
unfolding tally_of commands_of commands_from record_count
handed-first p = record { before = []; full = refl; tally-is = refl }

-- a block that was handed that
pub reached : (m : Machine) (totals : List ℤ) (p : Replay) (blocks : ℕ) → Handed m totals p blocks
    → (b : Block) (q : Replay) (input : List ℕ) → BlockGives (machine_in p) p.totals.now b q input → Reached m totals b (blocks + 1) q input
reached m totals p blocks h b q input g = record {
  before = h.before;
  count = blocks;
  full = h.full;
  blocks-are = refl;
  fitted = ap (λ (t : Tally). t.fits) h.tally-is;
  block = subst (λ (t : Tally). BlockGives t.machine t.totals b q input) (sym h.tally-is) g;
}

module _ (m : Machine) (totals : List ℤ) (b : Block) (blocks : ℕ) (p : Replay) (input : List ℕ) (h : Reached m totals b blocks p input) where
  -- the tally of the bytes before the block and of its own goes on from the first
  pub joined-tally :
      tally_of m totals (commands_of (h.before ++ take b.filled.length input))
      ≡ tally_of (tally_of m totals (commands_of h.before)).machine (tally_of m totals (commands_of h.before)).totals
      (commands_of (take b.filled.length input))
  unfolding continued
  joined-tally =
      let first : Tally = tally_of m totals (commands_of h.before) in
      let counted : length h.before ≡ 8 * (RECORDS * h.count) = omega (arith, h.full) in
      in_blocks m totals (RECORDS * h.count) h.before (take b.filled.length input) counted
      ∙ ap (λ (x : Bool). cond x (tally_of first.machine first.totals (commands_of (take b.filled.length input))) first) h.fitted

  -- what the next block is handed
  pub handed-next : goes_on b blocks ≡ true → Handed m totals p blocks
  handed-next more =
      let on = goes_on_lem b blocks more in
      let here : List ℕ = take b.filled.length input in
      let c = h.block.counted in
      let read : b.filled.length ≡ BYTES = full-length BYTES b.filled.length b.filled.stop (block-fills _ _ b p input h.block).why on.1 in
      let long : length here ≡ BYTES = length-take-le b.filled.length input (omega (arith, read, h.block.room)) ∙ read in
      record {
        before = h.before ++ here;
        full = length-append h.before here ∙ omega (arith, h.full, h.blocks-are, long);
        tally-is =
            joined-tally
            ∙ (λ j. record { machine = sym c.machine-is j; totals = sym c.totals-are j; fits = (sym c.fits-is ∙ on.0) j });
      }

  -- the last block
  pub last_block : (r : Registers) → r ≡ p.registers → blocks ≤ MOST → goes_on b blocks ≡ false
      → ReplayGives m totals (record { registers = r; last = b; blocks = blocks }) p input
  last_block r q k e = record { reached = h; why = ends b blocks (block-fills _ _ b p input h.block) k e; registers-are = q }

-- a replay at its start
pub ready-first : (lent : Buffer) (p : Replay)
    → ReplayStarts lent p.registers (Wide p.buffer.now) p.words.now p.links.now p.presents.now p.totals.now → Ready p
unfolding tables_fit length_fits start_machine
ready-first lent p s = record {
  runs = record {
    fit = ap (λ (m : Machine). length_fits (length m.words)) s.machine-is ∙ ap length_fits (length-replicate {A = ℕ} 16384 0);
    indexed = s.indexed;
    columns = ap length s.totals-are ∙ length-replicate TOTALS (pos 0);
  };
  in-limit = s.in-limit;
}

-- a file from the start
pub from_start : (lent : Buffer) (m : Machine) (totals : List ℤ) → m ≡ start_machine lent → totals ≡ replicate TOTALS (pos 0)
    → (r : Replayed) (q : Replay) (input : List ℕ) → ReplayGives m totals r q input
    → ReplayGives (start_machine lent) (replicate TOTALS (pos 0)) r q input
from_start lent m totals e t r q input g =
    subst (λ (x : Machine). ReplayGives x (replicate TOTALS (pos 0)) r q input) e
    (subst (λ (ts : List ℤ). ReplayGives m ts r q input) t g)
