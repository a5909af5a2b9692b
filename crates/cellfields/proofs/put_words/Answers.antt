use Rattle.cellfields.proofs.TextLaws.{stand_room, stand_put, raised_room, raised_put, entry_fits, entry_room, entry_put}
use Rattle.cellfields.proofs.put_words.Goals as goal

pub put_bytes-requires : goal.put_bytes-requires
put_bytes-requires c = search stand_room

pub returns-then-p-eq1 : goal.returns-then-p-eq1
returns-then-p-eq1 c = search stand_put

pub put_raised-requires : goal.put_raised-requires
put_raised-requires c = search raised_room

pub returns-then-p-eq2 : goal.returns-then-p-eq2
returns-then-p-eq2 c = search raised_put

pub shared_ref_as_front-spelled : goal.shared_ref_as_front-spelled
shared_ref_as_front-spelled c = search entry_fits

pub put_bytes-requires-2 : goal.put_bytes-requires-2
put_bytes-requires-2 c = search entry_room

pub returns : goal.returns
returns c = search entry_put
