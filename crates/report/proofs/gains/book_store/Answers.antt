use mathlib.Core.Path.{refl}
use native.Mathlib.Omega.{arith}
use Rattle.std.proofs.lemmas.Result.{err_from_is_err_and}
use Rattle.report.proofs.TotalLaws.{two-stop, two-done, book-as, amount-small, change-small, wide-passed, change-passed}
use Rattle.report.proofs.gains.book_store.Goals as goal

pub book-requires : goal.book-requires
book-requires c = (
  c.requires.0,
  c.requires.1,
  omega arith,
  amount-small _ c.args.emptied (wide-passed c.from-amount.result c.args.emptied c.from-amount.ensures (omega arith)) (omega arith),
)

pub returns-in_err-book : goal.returns-in_err-book
returns-in_err-book c = let p = err_from_is_err_and c.from_residual.result c.from_residual.ensures.1 in
    rw p.1 (two-stop _ _ _ _ _ _
    (book-as _ _ _ _ _ _ _ (wide-passed c.from-amount.result c.args.emptied c.from-amount.ensures (omega arith)) c.in_err-book.ensures) refl)

pub book-requires-2 : goal.book-requires-2
book-requires-2 c = (
  omega arith,
  c.in_ok-book.ensures.in-limit refl,
  omega arith,
  change-small _ c.args.after c.args.before (change-passed c.difference-change.result c.args.after c.args.before c.difference-change.ensures
      (omega arith) (omega arith)) (omega arith) (omega arith),
)

pub returns : goal.returns
returns c = two-done _ _ _ _ _ _
    (book-as _ _ _ _ _ _ _ (wide-passed c.from-amount.result c.args.emptied c.from-amount.ensures (omega arith)) c.in_ok-book.ensures) refl _ _
    (book-as _ _ _ _ _ _ _ (change-passed c.difference-change.result c.args.after c.args.before c.difference-change.ensures (omega arith) (omega arith)) c.book-2.ensures)
