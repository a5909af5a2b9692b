use Rattle.cellfields.proofs.NameLaws.{short_name}
use Rattle.qsowriter.proofs.TakenLaws.{spelled_is}
use Rattle.qsowriter.proofs.is_named.Goals as goal

pub shared_ref_as_front-spelled : goal.shared_ref_as_front-spelled
shared_ref_as_front-spelled c = search short_name

pub returns : goal.returns
returns c = search spelled_is
