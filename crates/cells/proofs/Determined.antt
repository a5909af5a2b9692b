-- Each public call's promise is met by one answer. Assumes nothing.
use mathlib.Core.Path.{sym, ◌∙◌}
use Rattle.text.proofs.Once.{Once}
use Rattle.cells.proofs.words_size.Reads as words_size
use Rattle.cells.proofs.words_size.Kinds as words-size-kinds
use Rattle.cells.proofs.cells_of.Reads as Cells-of
use Rattle.cells.proofs.cells_of.Kinds as cells-of-kinds
use Rattle.cells.proofs.is_dropped.Reads as is-dropped
use Rattle.cells.proofs.is_dropped.Kinds as is-dropped-kinds

words_size_once : Once 1 words-size-kinds.ps words-size-kinds.r words_size.Post
words_size_once κs a x y d e p q = p ∙ sym q

cells_of_once : Once 1 cells-of-kinds.ps cells-of-kinds.r Cells-of.Post
cells_of_once κs a x y d e p q = p ∙ sym q

is_dropped_once : Once 0 is-dropped-kinds.ps is-dropped-kinds.r is-dropped.Post
is_dropped_once κs a x y d e p q = p ∙ sym q
