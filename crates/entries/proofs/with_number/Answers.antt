use Rattle.entries.proofs.NumberLaws.{stored_is}
use Rattle.entries.proofs.with_number.Goals as goal

pub returns : goal.returns
returns c = search stored_is
