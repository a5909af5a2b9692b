use Rattle.writer.proofs.RowLaws.{rows_start, rows_room, rows_on, rows_end}
use Rattle.writer.proofs.put_rows.Goals as goal

pub loop-i-init : goal.loop-i-init
loop-i-init c = search rows_start

pub put_row-at-requires : goal.put_row-at-requires
put_row-at-requires c = search rows_room

pub loop-i-preserved : goal.loop-i-preserved
loop-i-preserved c = search rows_on

pub returns : goal.returns
returns c = search rows_end
