use Rattle.merge.proofs.RowLaws.{rest_start, rows_room, rows_on, rows_end}
use Rattle.merge.proofs.put_rows.Goals as goal

pub loop-i-init : goal.loop-i-init
loop-i-init c = search rest_start

pub put_row-to-requires : goal.put_row-to-requires
put_row-to-requires c = search rows_room

pub loop-i-preserved : goal.loop-i-preserved
loop-i-preserved c = search rows_on

pub returns : goal.returns
returns c = search rows_end
