use Rattle.cells.proofs.CellLaws.{split_is, split_not}
use Rattle.cells.proofs.split_cell.Goals as goal

pub returns-then-f-eq1 : goal.returns-then-f-eq1
returns-then-f-eq1 c = search split_is

pub returns-else-f-eq1 : goal.returns-else-f-eq1
returns-else-f-eq1 c = search split_not
