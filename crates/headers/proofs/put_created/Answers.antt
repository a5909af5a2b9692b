use Rattle.output.proofs.PutLaws.{room_first, room_next, put_then}
use Rattle.headers.proofs.put_created.Goals as goal

pub put_field-a-requires : goal.put_field-a-requires
put_field-a-requires c = search room_first

pub put_bytes-requires : goal.put_bytes-requires
put_bytes-requires c = search room_next

pub returns : goal.returns
returns c = search put_then
