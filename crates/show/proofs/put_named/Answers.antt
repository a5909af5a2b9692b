use Rattle.output.proofs.PutLaws.{room_first, room_next, put_then}
use Rattle.show.proofs.put_named.Goals as goal

pub put_bytes-a-requires : goal.put_bytes-a-requires
put_bytes-a-requires c = rw c.name.ensures (room_first _ _ _ _ c.requires)

pub put_byte-requires : goal.put_byte-requires
put_byte-requires c = room_next _ _ _ _ c.requires _ _ (rw c.name.ensures at c.put_bytes-a.ensures)

pub returns : goal.returns
returns c = put_then _ _ _ _ _ _ _ _ (rw c.name.ensures at c.put_bytes-a.ensures) c.put_byte.ensures
