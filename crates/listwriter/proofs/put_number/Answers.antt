use Rattle.listwriter.proofs.PartLaws.{number_room, number_put}
use Rattle.listwriter.proofs.put_number.Goals as goal

pub put_bytes-requires : goal.put_bytes-requires
put_bytes-requires c = number_room _ _ _ _ c.requires.1 _ c.to_be_bytes.ensures c.requires.0

pub returns : goal.returns
returns c = number_put _ _ _ _ c.requires.1 _ c.to_be_bytes.ensures _ _ c.put_bytes.ensures
