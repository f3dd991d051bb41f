-- The lines of a file, and the files one after the other. Assumes nothing.
use Prim.Native.Nat.{ℕ, ◌+◌, ◌-◌, ◌≤◌, ◌<◌}
use mathlib.Core.Path.{◌≡◌, refl, sym, subst}
use mathlib.Core.Bool.{Bool, true, false, ◌&&◌}
use mathlib.Core.List.{List}
use mathlib.Core.Logic.{◌⊎◌, inl, inr}
use native.Mathlib.Omega.{arith}
use lib.Dec.{ltb}
use lib.IntN.{pos}
use lib.ListN.{length, replicate}
use borrow.Author.Tests.{ltb-true, ltb-false, eq-eqb}
use Rattle.runs.proofs.Bools.{both, clash}
use Rattle.slots.specs.Buffer.{buffer_fits}
use Rattle.slots.specs.Buffer.Buffer.{Wide}
use Rattle.line.specs.Text.{TextPut, Begins}
use Rattle.line.proofs.TextLaws.{put-begins}
use Rattle.rows.specs.Rows.{unread_text}
use Rattle.trace.specs.Traces.{start_machine}
use Rattle.std.specs.Result.{is_ok}
use Rattle.report.specs.Totals.{TOTALS}
use Rattle.report.specs.declared.Replay.{Replay}
use Rattle.reporting.specs.Replays.{ReplayGives}
use Rattle.reporting.specs.Endings.{ending_of, ending_text}
use Rattle.reporting.specs.Reports.{FileGives, FilePut, LastFile, ReportGives}
use Rattle.reporting.specs.declared.Ending.{Ending}
use Rattle.reporting.specs.declared.Filed.{Filed}
use Rattle.reporting.specs.declared.Replayed.{Replayed}

-- a file that was replayed, and the lines of its ending
pub file-gives : (lent : List ℕ) (number n : ℕ) (p : Replay) (words input out after : List ℕ) (r : Replayed) (ending : Ending)
    → length lent ≡ 64 → words ≡ p.words.now
    → ReplayGives (start_machine (Wide lent)) (replicate TOTALS (pos 0)) r p input
    → ending ≡ ending_of (is_ok r.last.counted) r.last.filled.stop → TextPut out 0 (ending_text number p.totals.now ending) n after
    → FileGives number (record { replayed = r; length = n }) words input after
unfolding buffer_fits
file-gives lent number n p words input out after r ending l w g e t = record {
  lent = Wide lent;
  lent_fits = eq-eqb (length lent) 64 l;
  after = p;
  words_are = w;
  replay = g;
  lines =
      put-begins out (ending_text number p.totals.now (ending_of (is_ok r.last.counted) r.last.filled.stop)) n after
      (subst (λ (x : Ending). TextPut out 0 (ending_text number p.totals.now x) n after) e t);
}

pub opened : (number : ℕ) (f : Filed) (words input after : List ℕ) → FileGives number f words input after
    → FilePut number f words input after
unfolding FilePut
opened number f words input after g = inr g

pub not_opened : (number n : ℕ) (f : Filed) (words input out after : List ℕ) → (f.replayed.blocks ≡ 0) × (f.length ≡ n)
    → TextPut out 0 (unread_text number) n after → FilePut number f words input after
unfolding FilePut
not_opened number n f words input out after e t =
    inl (record {
      no_block = e.0;
      lines = subst (λ (k : ℕ). Begins after k (unread_text number)) (sym e.1) (put-begins out (unread_text number) n after t);
    })

-- the test by which the loop goes on: there is an argument left, and the lines before could be written
pub goes_on_lem : (written : Bool) (next count : ℕ) → written && ltb next count ≡ true → next < count
goes_on_lem written next count h = ltb-true next count (both written (ltb next count) h).1

pub was-written : (written : Bool) (next count : ℕ) → written && ltb next count ≡ true → written ≡ true
was-written written next count h = (both written (ltb next count) h).0

pub none_left : (written : Bool) (next count : ℕ) → written && ltb next count ≡ false → written ≡ true → count ≤ next
none_left true next count h e = ltb-false next count h
none_left false next count h e = absurd (clash e refl)

-- one file more
pub next-file : (count next : ℕ) (f : Filed) (words input out : List ℕ) → 1 ≤ next → next < count
    → FilePut (next - 1) f words input out → LastFile count (next + 1) f words input out
next-file count next f words input out l k p =
    record { file = next - 1; next-is = omega (arith, l); named = omega (arith, k); put = p }

-- what holds while the loop goes: no file yet, or the last one
pub Going : (count next : ℕ) (f : Filed) (written : Bool) (words input out : List ℕ) → Type 0
Going count next f written words input out =
    ((next ≡ 1) × (f.length ≡ 0) × (written ≡ true)) ⊎ LastFile count next f words input out

pub first-file : (count : ℕ) (f : Filed) (words input out : List ℕ) → (f.replayed.blocks ≡ 0) × (f.length ≡ 0)
    → Going count 1 f true words input out
unfolding Going
first-file count f words input out e = inl (refl, e.1, refl)

pub more-files : (count next : ℕ) (f : Filed) (written : Bool) (words input out : List ℕ) → 1 ≤ next → next < count
    → FilePut (next - 1) f words input out → Going count (next + 1) f written words input out
unfolding Going
more-files count next f written words input out l k p = inr (next-file count next f words input out l k p)

pub reported : (count next : ℕ) (f : Filed) (written : Bool) (words input out : List ℕ) → Going count next f written words input out
    → written && ltb next count ≡ false → ReportGives count (record { next = next; file = f; written = written }) words input out
unfolding Going
reported count next f written words input out (inl h) e = record {
  last-file =
      inl (record {
        none_named = let k = none_left written next count e h.2 in let q = h.0 in omega (arith, k, q);
        next-is = h.0;
        no_lines = h.1;
      });
  none_left = none_left written next count e;
}
reported count next f written words input out (inr h) e = record { last-file = inr h; none_left = none_left written next count e }
