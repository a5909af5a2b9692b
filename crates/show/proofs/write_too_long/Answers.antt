use Rattle.show.proofs.PlanLaws.{too_long_room}
use Rattle.show.proofs.write_too_long.Goals as goal

pub put_bytes-requires : goal.put_bytes-requires
put_bytes-requires c = search too_long_room
