use Rattle.summary.proofs.LineLaws.{found_first, found_next, found_put}
use Rattle.summary.proofs.put_found.Goals as goal

pub put_counted-a-requires : goal.put_counted-a-requires
put_counted-a-requires c = search found_first

pub put_further-requires : goal.put_further-requires
put_further-requires c = search found_next

pub returns : goal.returns
returns c = search found_put
