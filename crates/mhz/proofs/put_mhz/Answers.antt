use Rattle.mhz.proofs.WriteLaws.{room_whole, room_point, room_six, put_parts}
use Rattle.mhz.proofs.put_mhz.Goals as goal

pub put_decimal-point-requires : goal.put_decimal-point-requires
put_decimal-point-requires c = search room_whole

pub put_byte-rest-requires : goal.put_byte-rest-requires
put_byte-rest-requires c = search room_point

pub put_last-requires : goal.put_last-requires
put_last-requires c = search room_six

pub returns : goal.returns
returns c = search put_parts
