-- What a report puts into its writer: nothing at first, and one file more. Assumes nothing.
use Prim.Native.Nat.{ℕ, suc, ◌+◌, ◌-◌, ◌≤◌}
use mathlib.Core.Path.{◌≡◌, refl, subst}
use mathlib.Core.List.{List, [], ◌++◌}
use native.Mathlib.Omega.{arith}
use lib.ListN.{take}
use Rattle.std.specs.Io.KnownBytes.{Appends}
use Rattle.std.specs.declared.option.Option.{Option}
use Rattle.std.proofs.KnownBytes.{Appends-nil, Appends-trans}
use Rattle.reporting.specs.Reports.{FilePut}
use Rattle.reporting.specs.Streams.{FilesText, ReportPuts}
use Rattle.reporting.specs.declared.Filed.{Filed}

-- no file yet
pub puts-nothing : (held : Option (List ℕ)) → ReportPuts 0 held held
unfolding FilesText
puts-nothing held = record { text = []; files-are = refl; put = Appends-nil held }

one-more : (files : ℕ) (f : Filed) (words input out : List ℕ) (held mid holds : Option (List ℕ)) → FilePut files f words input out
    → Appends mid holds (take f.length out) → ReportPuts files held mid → ReportPuts (suc files) held holds
unfolding FilesText
one-more files f words input out held mid holds p a h = record {
  text = h.text ++ take f.length out;
  files-are = (
    h.text,
    take f.length out,
    h.files-are,
    record { file = f; words = words; input = input; out = out; lines = p; text-is = refl },
    refl,
  );
  put = Appends-trans held mid holds h.text (take f.length out) h.put a;
}

-- the file of an argument
pub puts-more : (next : ℕ) (f : Filed) (words input out : List ℕ) (held mid holds : Option (List ℕ)) → 1 ≤ next
    → FilePut (next - 1) f words input out → Appends mid holds (take f.length out) → ReportPuts (next - 1) held mid
    → ReportPuts (next + 1 - 1) held holds
puts-more next f words input out held mid holds l p a h =
    let same : suc (next - 1) ≡ next + 1 - 1 = omega arith in
    subst (λ (n : ℕ). ReportPuts n held holds) same (one-more (next - 1) f words input out held mid holds p a h)
