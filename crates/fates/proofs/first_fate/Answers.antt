use Rattle.fates.proofs.StepLaws.{first_is}
use Rattle.fates.proofs.first_fate.Goals as goal

pub returns : goal.returns
returns c = search first_is
