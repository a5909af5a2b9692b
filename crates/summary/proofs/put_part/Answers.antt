use Rattle.summary.proofs.LineLaws.{none_put, some_room, some_put}
use Rattle.summary.proofs.put_part.Goals as goal

pub returns-then-n-eq0 : goal.returns-then-n-eq0
returns-then-n-eq0 c = search none_put

pub put_further-requires : goal.put_further-requires
put_further-requires c = search some_room

pub returns : goal.returns
returns c = search some_put
