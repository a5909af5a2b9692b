use Rattle.cells.proofs.CellLaws.{words_are, words_not}
use Rattle.cells.proofs.words_cell.Goals as goal

pub returns-then-has_value : goal.returns-then-has_value
returns-then-has_value c = search words_are

pub returns-else-has_value : goal.returns-else-has_value
returns-else-has_value c = search words_not
