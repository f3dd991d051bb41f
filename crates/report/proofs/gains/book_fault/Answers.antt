use mathlib.Core.Path.{refl}
use native.Mathlib.Omega.{arith}
use Rattle.std.proofs.lemmas.Result.{err_from_is_err_and}
use Rattle.report.proofs.GainLaws.{column-small, fault-stop, fault-none, fault-done}
use Rattle.report.proofs.gains.book_fault.Goals as goal

pub returns-in_err-book_served : goal.returns-in_err-book_served
returns-in_err-book_served c = let p = err_from_is_err_and c.from_residual.result c.from_residual.ensures.1 in
    rw p.1 (fault-stop _ _ _ _ _ _ c.in_err-book_served.ensures refl)

pub book-requires : goal.book-requires
book-requires c = (
  omega arith,
  c.in_ok-book_served.ensures.in-limit refl,
  column-small _ _ c.in-Some.ensures.1,
  omega arith,
)

pub returns-in-Some : goal.returns-in-Some
returns-in-Some c = fault-done _ _ _ _ _ _ c.in_ok-book_served.ensures refl _ c.fault_kind.ensures c.in-Some.ensures.0 _ c.in-Some.ensures.1 _ _ c.book.ensures

pub returns-in-None : goal.returns-in-None
returns-in-None c = fault-none _ _ _ _ _ _ c.in_ok-book_served.ensures refl _ c.fault_kind.ensures (grind arith)
