use Rattle.cells.proofs.CellLaws.{cells_are}
use Rattle.cells.proofs.cells_of.Goals as goal

pub returns : goal.returns
returns c = search cells_are
