use Rattle.output.proofs.PutLaws.{room_first, room_next, put_then}
use Rattle.station.proofs.put_call.Goals as goal

pub put_given-a-requires : goal.put_given-a-requires
put_given-a-requires c = search room_first

pub put_given-requires : goal.put_given-requires
put_given-requires c = search room_next

pub returns : goal.returns
returns c = search put_then
