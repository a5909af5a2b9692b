use Rattle.show.proofs.PlanLaws.{summary_room, newline_room, plan_put}
use Rattle.show.proofs.write_plan.Goals as goal

pub put_summary-b-requires : goal.put_summary-b-requires
put_summary-b-requires c = search summary_room

pub put_byte-requires : goal.put_byte-requires
put_byte-requires c = search newline_room

pub returns : goal.returns
returns c = search plan_put
