use Rattle.summary.proofs.LineLaws.{confirmed_first, confirmed_next, confirmed_put}
use Rattle.summary.proofs.put_confirmed.Goals as goal

pub put_part-a-requires : goal.put_part-a-requires
put_part-a-requires c = search confirmed_first

pub put_part-requires : goal.put_part-requires
put_part-requires c = search confirmed_next

pub returns : goal.returns
returns c = search confirmed_put
