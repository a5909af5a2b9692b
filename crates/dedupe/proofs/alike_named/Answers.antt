use Rattle.dedupe.proofs.ViewLaws.{viewed_alike}
use Rattle.dedupe.proofs.alike_named.Goals as goal

pub returns : goal.returns
returns c = search viewed_alike
