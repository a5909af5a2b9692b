use Rattle.writer.proofs.RowLaws.{row_room, row_room_end, row_put_end, row_put}
use Rattle.writer.proofs.put_row.Goals as goal

pub put_field-a-requires : goal.put_field-a-requires
put_field-a-requires c = search row_room

pub put_bytes-requires : goal.put_bytes-requires
put_bytes-requires c = search row_room_end

pub returns-then-ends : goal.returns-then-ends
returns-then-ends c = search row_put_end

pub returns : goal.returns
returns c = search row_put
