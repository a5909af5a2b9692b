use Rattle.qsowriter.proofs.TakenLaws.{taken_none}
use Rattle.qsowriter.proofs.is_taken.Goals as goal

pub returns : goal.returns
returns c = search taken_none
