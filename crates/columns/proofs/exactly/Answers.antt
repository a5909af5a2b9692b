use Rattle.columns.proofs.ColumnLaws.{of_no_length}
use Rattle.columns.proofs.exactly.Goals as goal

pub returns-in_default : goal.returns-in_default
returns-in_default c = search of_no_length
