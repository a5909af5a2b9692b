use Rattle.cells.proofs.CellLaws.{entity_is, entity_not}
use Rattle.cells.proofs.entity_cell.Goals as goal

pub returns-then-d-eq1 : goal.returns-then-d-eq1
returns-then-d-eq1 c = search entity_is

pub returns-else-d-eq1 : goal.returns-else-d-eq1
returns-else-d-eq1 c = search entity_not
