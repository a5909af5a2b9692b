use Rattle.entries.proofs.RowLaws.{record_row}
use Rattle.entries.proofs.row_of_record.Goals as goal

pub returns : goal.returns
returns c = search record_row
