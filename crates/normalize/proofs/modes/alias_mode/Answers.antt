use Rattle.normalize.proofs.SplitLaws.{alias_of_part}
use Rattle.normalize.proofs.modes.alias_mode.Goals as goal

pub returns : goal.returns
returns c = search alias_of_part
