-- What the programs' loops promise, said of the whole input. Assumes nothing.
use Prim.Native.Nat.{ℕ, ◌+◌, ◌*◌, ◌<◌}
use mathlib.Core.Path.{◌≡◌, refl, sym, ap, subst, ◌∙◌}
use mathlib.Core.Bool.{Bool, true, false}
use mathlib.Core.List.{List, ◌++◌}
use mathlib.Core.Logic.{◌⊎◌, inl, inr}
use native.Mathlib.Nat.{zero-add}
use native.Mathlib.Omega.{arith}
use lib.IntN.{ℤ, pos}
use lib.ListN.{length, take, length-append, replicate}
use Rattle.runs.proofs.Bools.{clash}
use Rattle.line.specs.Text.{Begins}
use Rattle.rows.specs.Rows.{report_of, refused_text, unread_text}
use Rattle.trace.specs.Commands.{commands_of}
use Rattle.trace.specs.Traces.{start_machine, machine_after, lines_of, trace_text}
use Rattle.trace.proofs.Blocks.{in_blocks, joined, first-length}
use Rattle.tracing.specs.Blocks.{RECORDS}
use Rattle.report.specs.Tallies.{Tally, file_tally}
use Rattle.report.specs.Totals.{TOTALS}
use Rattle.std.specs.Result.{is_ok}
use Rattle.streams.specs.declared.Stop.{Stop}
use Rattle.streams.specs.declared.Stop.TheVariants.{Full, Ended, Failed}
use Rattle.reporting.specs.Replays.{EndsAt}
use Rattle.reporting.specs.Endings.{ending_of, ending_text}
use Rattle.reporting.specs.declared.Block.{Block}
use Rattle.reporting.proofs.ReplayLaws.{joined-tally}
use Rattle.replays.specs.Programs.{TracedAreSequences, whole_tally, ReportedAreSums}
use Rattle.replays.proofs.Traces.{traces-are-sequences}
use Rattle.replays.proofs.Reports.{reports-are-sums}

pub traced-are-sequences : TracedAreSequences
unfolding trace_text
traced-are-sequences lent b buffer words input out f g =
    let m = start_machine lent in
    let h = g.reached in
    let here : List ℕ = take b.read input in
    let n : ℕ = RECORDS * h.count in
    let counted : length h.before ≡ 8 * n = omega (arith, h.full) in
    let whole = in_blocks m 0 n h.before here counted in
    let sequence = traces-are-sequences lent (h.before ++ here) f in
    record {
      before = h.before;
      count = h.count;
      full = h.full;
      why = g.why;
      sequence = sequence;
      machine-is = h.block.machine-is ∙ sym whole.1 ∙ sequence.machine-is;
      number_is =
          h.block.number_is
          ∙ ap (λ (k : ℕ). k + length (commands_of here)) (sym (first-length n h.before here counted))
          ∙ sym (length-append (commands_of h.before) (commands_of here))
          ∙ ap length (sym (joined n h.before here counted));
      text-is =
          whole.0
          ∙ ap (λ (k : ℕ). lines_of m 0 (commands_of h.before) ++ lines_of (machine_after m (commands_of h.before)) k (commands_of here))
          (zero-add n)
          ∙ ap (λ (t : List ℕ). lines_of m 0 (commands_of h.before) ++ t) (sym h.block.lines_are.text-is);
    }

-- the lines of an ending, by the text
module _ (number : ℕ) (totals : List ℤ) where
  refused-lines : (fits : Bool) (stop : Stop) → fits ≡ false → ending_text number totals (ending_of fits stop) ≡ refused_text number
  unfolding ending_of ending_text
  refused-lines true stop e = absurd (clash refl e)
  refused-lines false stop e = refl

  unread-lines : (fits : Bool) (stop : Stop) → fits ≡ true → stop ≡ Failed
      → ending_text number totals (ending_of fits stop) ≡ unread_text number
  unfolding ending_of ending_text
  unread-lines true Failed e q = refl
  unread-lines true Full e q = absurd (cc)
  unread-lines true Ended e q = absurd (cc)
  unread-lines false stop e q = absurd (clash e refl)

  whole-lines : (fits : Bool) (stop : Stop) → fits ≡ true → (stop ≡ Failed → ⊥)
      → ending_text number totals (ending_of fits stop) ≡ report_of number totals
  unfolding ending_of ending_text
  whole-lines true Failed e q = absurd (q refl)
  whole-lines true Full e q = refl
  whole-lines true Ended e q = refl
  whole-lines false stop e q = absurd (clash e refl)

-- why a file is whole: its last block ended it
whole-ends : (b : Block) (blocks : ℕ) → EndsAt b blocks → is_ok b.counted ≡ true → (b.filled.stop ≡ Failed → ⊥)
    → ((b.filled.length < 65536) × (b.filled.stop ≡ Ended)) ⊎ (blocks ≡ 18446744073709551615)
whole-ends b blocks (inl p) e q = absurd (clash e p)
whole-ends b blocks (inr (inl p)) e q = absurd (q p)
whole-ends b blocks (inr (inr p)) e q = p

pub reported-are-sums : ReportedAreSums
unfolding whole_tally file_tally
reported-are-sums number f words input out g =
    let h = g.replay.reached in
    let last = f.replayed.last in
    let c = h.block.counted in
    let same = joined-tally (start_machine g.lent) (replicate TOTALS (pos 0)) last f.replayed.blocks g.after input h in
    let fits : is_ok last.counted ≡ (whole_tally g.lent h.before f input).fits = c.fits-is ∙ sym (ap (λ (t : Tally). t.fits) same) in
    let totals : g.after.totals.now ≡ (whole_tally g.lent h.before f input).totals =
    c.totals-are ∙ sym (ap (λ (t : Tally). t.totals) same) in
    record {
      lent = g.lent;
      before = h.before;
      count = h.count;
      full = h.full;
      blocks-are = h.blocks-are;
      sums = reports-are-sums g.lent (h.before ++ take last.filled.length input) g.lent_fits;
      refused =
          λ e. subst (Begins out f.length) (refused-lines number g.after.totals.now (is_ok last.counted) last.filled.stop (fits ∙ e))
          g.lines;
      unread =
          λ e q. subst (Begins out f.length)
          (unread-lines number g.after.totals.now (is_ok last.counted) last.filled.stop (fits ∙ e) q) g.lines;
      whole =
          λ e q. (
            subst (Begins out f.length)
                (whole-lines number g.after.totals.now (is_ok last.counted) last.filled.stop (fits ∙ e) q
                ∙ ap (report_of number) totals) g.lines,
            whole-ends last f.replayed.blocks g.replay.why (fits ∙ e) q,
          );
    }
