use mathlib.Core.Path.{sym, ◌∙◌}
use borrow.Author.Tests.{eqb-true, eqb-false}
use Rattle.reader.proofs.CloseLaws.{close_empty, close_many, close_few, close_moved}
use Rattle.reader.proofs.close.Goals as goal

pub returns-then-is_empty : goal.returns-then-is_empty
returns-then-is_empty c = close_empty _ _ _ _ (eqb-true _ _ (sym c.is_empty.ensures ∙ c.if-is_empty.true))

pub returns-then-closed-ge-RECORDS : goal.returns-then-closed-ge-RECORDS
returns-then-closed-ge-RECORDS c = close_many _ _ _ _ (eqb-false _ _ (sym c.is_empty.ensures ∙ c.if-is_empty.false)) c.if-closed-ge-RECORDS.true

pub returns-then-table-closed : goal.returns-then-table-closed
returns-then-table-closed c = close_few _ _ _ _ (eqb-false _ _ (sym c.is_empty.ensures ∙ c.if-is_empty.false)) c.if-closed-ge-RECORDS.false c.if-table-closed.true

pub returns : goal.returns
returns c = close_moved _ _ _ _ (eqb-false _ _ (sym c.is_empty.ensures ∙ c.if-is_empty.false)) c.if-closed-ge-RECORDS.false _ c.if-table-closed.false c.move_rows.auto.table c.move_rows.ensures
