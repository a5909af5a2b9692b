use Rattle.cells.proofs.CellLaws.{band_is, band_not}
use Rattle.cells.proofs.band_cell.Goals as goal

pub returns-then-words_size-eq0 : goal.returns-then-words_size-eq0
returns-then-words_size-eq0 c = search band_not

pub returns-else-words_size-eq0 : goal.returns-else-words_size-eq0
returns-else-words_size-eq0 c = search band_is
