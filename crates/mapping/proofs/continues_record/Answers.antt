use Rattle.mapping.proofs.RowLaws.{goes_on_lem}
use Rattle.mapping.proofs.continues_record.Goals as goal

pub returns : goal.returns
returns c = search goes_on_lem
