use Rattle.output.proofs.PutLaws.{room_first, room_second, room_third, put_three}
use Rattle.headers.proofs.put_versions.Goals as goal

pub put_field-a-requires : goal.put_field-a-requires
put_field-a-requires c = search room_first

pub put_field-b-requires : goal.put_field-b-requires
put_field-b-requires c = search room_second

pub put_field-requires : goal.put_field-requires
put_field-requires c = search room_third

pub returns : goal.returns
returns c = search put_three
