use native.Mathlib.Omega.{arith}
use Rattle.output.proofs.PutLaws.{room_first, room_second, room_third, put_three}
use Rattle.listwriter.proofs.put_head.Goals as goal

pub put_number-a-requires : goal.put_number-a-requires
put_number-a-requires c = (search room_first, omega arith)

pub put_number-b-requires : goal.put_number-b-requires
put_number-b-requires c = (search room_second, omega arith)

pub put_byte-requires : goal.put_byte-requires
put_byte-requires c = search room_third

pub returns : goal.returns
returns c = search put_three
