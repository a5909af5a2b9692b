use Rattle.entries.proofs.NumberLaws.{both_are}
use Rattle.logged.proofs.with_hit.Goals as goal

pub returns : goal.returns
returns c = search both_are
