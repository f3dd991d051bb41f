-- How a file ends, and the lines that it then has.
use Rattle.std.specs.Prelude.{ℕ, Bool, true, false, List, ℤ}
use Rattle.streams.specs.declared.Stop.{Stop}
use Rattle.streams.specs.declared.Stop.TheVariants.{Full, Ended, Failed}
use Rattle.rows.specs.Rows.{report_of, refused_text, unread_text}
use Rattle.reporting.specs.declared.Ending.{Ending}
use Rattle.reporting.specs.declared.Ending.TheVariants.{Unread, Refused, Whole}

-- a total that passed the limit stops the file before a read that failed behind it
unfoldable pub ending_of : (fits : Bool) → Stop → Ending
ending_of false stop = Refused
ending_of true Failed = Unread
ending_of true Full = Whole
ending_of true Ended = Whole

-- "its one line is then its number and "refused 9", or "unread" where it can't be read"
unfoldable pub ending_text : (number : ℕ) (totals : List ℤ) → Ending → List ℕ
ending_text number totals Unread = unread_text number
ending_text number totals Refused = refused_text number
ending_text number totals Whole = report_of number totals
