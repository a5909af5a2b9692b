use Rattle.cells.proofs.CellLaws.{megahertz_is, megahertz_not}
use Rattle.cells.proofs.megahertz_cell.Goals as goal

pub returns-then-f-eq1 : goal.returns-then-f-eq1
returns-then-f-eq1 c = search megahertz_is

pub returns-else-f-eq1 : goal.returns-else-f-eq1
returns-else-f-eq1 c = search megahertz_not
