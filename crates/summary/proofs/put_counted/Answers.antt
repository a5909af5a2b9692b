use Rattle.summary.proofs.LineLaws.{counted_first, counted_next, counted_put}
use Rattle.summary.proofs.put_counted.Goals as goal

pub put_decimal-a-requires : goal.put_decimal-a-requires
put_decimal-a-requires c = search counted_first

pub put_bytes-requires : goal.put_bytes-requires
put_bytes-requires c = search counted_next

pub returns : goal.returns
returns c = search counted_put
