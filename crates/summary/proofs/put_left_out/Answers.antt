use Rattle.summary.proofs.LineLaws.{left_first, left_second, left_third, left_put}
use Rattle.summary.proofs.put_left_out.Goals as goal

pub put_part-a-requires : goal.put_part-a-requires
put_part-a-requires c = search left_first

pub put_part-b-requires : goal.put_part-b-requires
put_part-b-requires c = search left_second

pub put_part-requires : goal.put_part-requires
put_part-requires c = left_third _ _ _ _ _ _ _ c.put_part-a.ensures _ _ c.put_part-b.ensures c.requires

pub returns : goal.returns
returns c = search left_put
