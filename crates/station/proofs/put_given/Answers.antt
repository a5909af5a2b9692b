use Rattle.station.proofs.TextLaws.{blank_put, given_room, given_put}
use Rattle.station.proofs.put_given.Goals as goal

pub returns-then-is_blank : goal.returns-then-is_blank
returns-then-is_blank c = search blank_put

pub put_field-requires : goal.put_field-requires
put_field-requires c = search given_room

pub returns : goal.returns
returns c = search given_put
