use Rattle.dedupe.proofs.ViewLaws.{name_short, bytes_alike}
use Rattle.dedupe.proofs.alike.Goals as goal

pub alike_named-requires : goal.alike_named-requires
alike_named-requires c = (search name_short, search name_short)

pub returns : goal.returns
returns c = search bytes_alike
