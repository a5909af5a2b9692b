use Rattle.summary.proofs.LineLaws.{line_first, line_second, line_third, line_put}
use Rattle.summary.proofs.put_summary.Goals as goal

pub put_found-a-requires : goal.put_found-a-requires
put_found-a-requires c = search line_first

pub put_confirmed-b-requires : goal.put_confirmed-b-requires
put_confirmed-b-requires c = search line_second

pub put_left_out-requires : goal.put_left_out-requires
put_left_out-requires c = search line_third

pub returns : goal.returns
returns c = search line_put
