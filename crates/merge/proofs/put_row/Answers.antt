use Rattle.merge.proofs.RowLaws.{row_fits, row_put}
use Rattle.merge.proofs.put_row.Goals as goal

pub put_field-requires : goal.put_field-requires
put_field-requires c = search row_fits

pub returns : goal.returns
returns c = search row_put
