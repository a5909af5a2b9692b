-- Each public call's promise is met by one answer. Assumes nothing.
use mathlib.Core.Path.{sym, ◌∙◌}
use Rattle.text.proofs.Once.{Once}
use Rattle.columns.proofs.column_of.Reads as column-of
use Rattle.columns.proofs.column_of.Kinds as column-of-kinds
use Rattle.columns.proofs.is_column.Reads as is_column_lem
use Rattle.columns.proofs.is_column.Kinds as is-column-kinds

column_of_once : Once 1 column-of-kinds.ps column-of-kinds.r column-of.Post
column_of_once κs a x y d e p q = p ∙ sym q

is_column_once : Once 1 is-column-kinds.ps is-column-kinds.r is_column_lem.Post
is_column_once κs a x y d e p q = p ∙ sym q
