use Rattle.cellfields.proofs.TextLaws.{minus_room, digits_room, minus_put, plain_room, plain_put}
use Rattle.cellfields.proofs.put_number.Goals as goal

pub put_byte-a-requires : goal.put_byte-a-requires
put_byte-a-requires c = search minus_room

pub put_decimal-requires : goal.put_decimal-requires
put_decimal-requires c = search digits_room

pub returns-then-all : goal.returns-then-all
returns-then-all c = search minus_put

pub put_decimal-requires-2 : goal.put_decimal-requires-2
put_decimal-requires-2 c = search plain_room

pub returns : goal.returns
returns c = search plain_put
