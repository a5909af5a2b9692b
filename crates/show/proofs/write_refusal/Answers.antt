use Rattle.show.proofs.PlanLaws.{refused_first, refused_next, refused_put}
use Rattle.show.proofs.write_refusal.Goals as goal

pub put_bytes-a-requires : goal.put_bytes-a-requires
put_bytes-a-requires c = search refused_first

pub put_told-requires : goal.put_told-requires
put_told-requires c = search refused_next

pub returns : goal.returns
returns c = search refused_put
