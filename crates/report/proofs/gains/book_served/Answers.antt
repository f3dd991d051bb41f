use mathlib.Core.Path.{refl}
use native.Mathlib.Omega.{arith}
use Rattle.std.proofs.lemmas.Result.{err_from_is_err_and}
use Rattle.report.proofs.TotalLaws.{two-stop, two-done, book-as, amount-small, wide-passed}
use Rattle.report.proofs.gains.book_served.Goals as goal

pub returns-in_err-book : goal.returns-in_err-book
returns-in_err-book c = let p = err_from_is_err_and c.from_residual.result c.from_residual.ensures.1 in
    rw p.1 (two-stop _ _ _ _ _ _ c.in_err-book.ensures refl)

pub book-requires-2 : goal.book-requires-2
book-requires-2 c = (
  omega arith,
  c.in_ok-book.ensures.in-limit refl,
  omega arith,
  amount-small _ c.args.loads (wide-passed c.from-amount.result c.args.loads c.from-amount.ensures (omega arith)) (omega arith),
)

pub returns : goal.returns
returns c = two-done _ _ _ _ _ _ c.in_ok-book.ensures refl _ _
    (book-as _ _ _ _ _ _ _ (wide-passed c.from-amount.result c.args.loads c.from-amount.ensures (omega arith)) c.book-2.ensures)
