use Rattle.mapping.proofs.RowLaws.{is_row_lem}
use Rattle.mapping.proofs.is_row.Goals as goal

pub returns : goal.returns
returns c = search is_row_lem
