use Rattle.output.proofs.PutLaws.{room_first, room_second, room_third, put_three}
use Rattle.station.proofs.put_place.Goals as goal

pub put_given-a-requires : goal.put_given-a-requires
put_given-a-requires c = search room_first

pub put_given-b-requires : goal.put_given-b-requires
put_given-b-requires c = search room_second

pub put_given-requires : goal.put_given-requires
put_given-requires c = search room_third

pub returns : goal.returns
returns c = search put_three
