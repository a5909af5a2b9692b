use Rattle.cells.proofs.CellLaws.{has_value_lem}
use Rattle.cells.proofs.has_value.Goals as goal

pub returns : goal.returns
returns c = search has_value_lem
