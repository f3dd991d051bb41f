-- What a report puts into its writer, where that says which bytes it holds.
use Rattle.std.specs.Prelude.{ℕ, zero, suc, ◌≡◌, List, [], ◌++◌, take}
use Rattle.std.specs.Io.KnownBytes.{Appends}
use Rattle.std.specs.declared.option.Option.{Option}
use Rattle.reporting.specs.Reports.{FilePut}
use Rattle.reporting.specs.declared.Filed.{Filed}

-- the lines of a file, by its number
pub record FileText (number : ℕ) (text : List ℕ) : Type 0 where
  pub file : Filed
  pub words : List ℕ
  pub input : List ℕ
  pub out : List ℕ
  pub lines : FilePut number file words input out
  pub text-is : take file.length out ≡ text

-- the lines of so many files, from number 0 on
unfoldable pub FilesText : (files : ℕ) (text : List ℕ) → Type 0
FilesText zero text = text ≡ []
FilesText (suc files) text = (before last : List ℕ) × FilesText files before × FileText files last × (text ≡ before ++ last)

-- the lines of so many files were put behind what the writer held, one file after the other
pub record ReportPuts (files : ℕ) (held holds : Option (List ℕ)) : Type 0 where
  pub text : List ℕ
  pub files-are : FilesText files text
  pub put : Appends held holds text
