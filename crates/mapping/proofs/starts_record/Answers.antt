use Rattle.mapping.proofs.RowLaws.{starts}
use Rattle.mapping.proofs.starts_record.Goals as goal

pub returns : goal.returns
returns c = search starts
