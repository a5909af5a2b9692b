use Rattle.show.proofs.LineLaws.{line_first, line_second, line_third, line_put}
use Rattle.show.proofs.put_line.Goals as goal

pub put_number-a-requires : goal.put_number-a-requires
put_number-a-requires c = search line_first

pub put_named-b-requires : goal.put_named-b-requires
put_named-b-requires c = search line_second

pub put_number-requires : goal.put_number-requires
put_number-requires c = search line_third

pub returns : goal.returns
returns c = search line_put
