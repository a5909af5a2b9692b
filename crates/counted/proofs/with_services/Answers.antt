use Rattle.entries.proofs.NumberLaws.{both_are}
use Rattle.counted.proofs.with_services.Goals as goal

pub returns : goal.returns
returns c = search both_are
