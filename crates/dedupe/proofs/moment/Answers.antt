use Rattle.dedupe.proofs.MomentLaws.{moment_of_parts}
use Rattle.dedupe.proofs.moment.Goals as goal

pub returns : goal.returns
returns c = search moment_of_parts
