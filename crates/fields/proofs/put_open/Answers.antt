use Rattle.output.proofs.PutLaws.{room_first, room_second, room_third, put_three}
use Rattle.fields.proofs.put_open.Goals as goal

pub put_byte-a-requires : goal.put_byte-a-requires
put_byte-a-requires c = search room_first

pub put_raised-b-requires : goal.put_raised-b-requires
put_raised-b-requires c = search room_second

pub put_byte-requires : goal.put_byte-requires
put_byte-requires c = search room_third

pub returns : goal.returns
returns c = search put_three
