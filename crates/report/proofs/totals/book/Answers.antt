use mathlib.Core.Path.{refl, sym, ◌∙◌}
use Rattle.report.proofs.TotalLaws.{book-none, book-fits, book-done}
use Rattle.report.proofs.totals.book.Goals as goal

pub returns-then-id-gt62 : goal.returns-then-id-gt62
returns-then-id-gt62 c = book-none _ _ _ _ c.requires.1 c.if-id-gt62.true

pub overflow_add-total : goal.overflow_add-total
overflow_add-total c = let a = c.args in book-fits a.id a.column a.amount a.totals.now c.requires.1 c.requires.3

pub returns-then-not-is_within : goal.returns-then-not-is_within
returns-then-not-is_within c = let a = c.args in
    book-done a.id a.column a.amount a.totals.now c.requires.1 c.requires.3 _
    _ refl (sym c.if-not-is_within.true ∙ c.is_within.ensures) c.requires.0 c.requires.2 c.if-id-gt62.false

pub returns : goal.returns
returns c = let a = c.args in
    book-done a.id a.column a.amount a.totals.now c.requires.1 c.requires.3 _
    _ refl (sym c.if-not-is_within.false ∙ c.is_within.ensures) c.requires.0 c.requires.2 c.if-id-gt62.false
