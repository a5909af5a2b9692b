use Rattle.show.proofs.PlanLaws.{number_room, place_room, place_put, bare_room, bare_put}
use Rattle.show.proofs.put_told.Goals as goal

pub put_number-a-requires : goal.put_number-a-requires
put_number-a-requires c = search number_room

pub put_number-requires : goal.put_number-requires
put_number-requires c = search place_room

pub returns-then-has_place : goal.returns-then-has_place
returns-then-has_place c = search place_put

pub put_number-requires-2 : goal.put_number-requires-2
put_number-requires-2 c = search bare_room

pub returns : goal.returns
returns c = search bare_put
