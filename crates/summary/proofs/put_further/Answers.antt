use Rattle.summary.proofs.LineLaws.{further_first, further_next, further_put}
use Rattle.summary.proofs.put_further.Goals as goal

pub put_bytes-a-requires : goal.put_bytes-a-requires
put_bytes-a-requires c = search further_first

pub put_counted-requires : goal.put_counted-requires
put_counted-requires c = search further_next

pub returns : goal.returns
returns c = search further_put
